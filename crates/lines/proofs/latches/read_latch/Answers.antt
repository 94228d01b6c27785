-- One line of a latch, by 1 over the whole line, then 5 from left to right: two words of the table and one of the resets. The answers are given by
-- `out_of_range` and `all-fine`.
use mathlib.Core.Path.{sym, ◌∙◌}
use Rattle.lines.proofs.latches.OneLatch.{out_of_range, all-fine}
use Rattle.lines.proofs.latches.read_latch.Goals as goal

pub returns-in-Some : goal.returns-in-Some
returns-in-Some c =
    let a = c.args in
    let whole = out_of_range a.file.now a.defines a.m a.more a.v a.at a.table.now a.resets.now a.i _ _ _ c.requires.m_le_most c.requires.more_bound c.requires.own
    (sym c.in_ok-next.was ∙ c.read_frame.ensures.value) c.read_frame.ensures.words_after _ _ _
    (sym c.in-Some.is ∙ c.judge.ensures) in
    record { value = whole.0; by_index = whole.1 }

pub returns : goal.returns
returns c =
    let a = c.args in
    let whole = all-fine a.file.now a.defines a.m a.more a.v a.at a.table.now a.resets.now a.i _ _ _ c.requires.m_le_most c.requires.more_bound c.requires.own
    (sym c.in_ok-next.was ∙ c.read_frame.ensures.value) c.read_frame.ensures.words_after c.requires.i_in_bounds c.requires.i_in_bounds_2
    (sym c.in_default.is ∙ c.judge.ensures) in
    record { value = whole.0; by_index = whole.1 }
