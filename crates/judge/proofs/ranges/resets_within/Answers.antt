-- The latches that are left decide: the first of them at each turn, and none at the end.
use mathlib.Core.Path.{sym, ◌∙◌}
use borrow.Author.Tests.{not-true, not-false}
use Rattle.judge.proofs.ranges.Steps.{reset-inside, reset-outside}
use Rattle.judge.proofs.ranges.resets_within.Goals as goal

pub returns-then-not-is_reset : goal.returns-then-not-is_reset
returns-then-not-is_reset c =
    let a = c.args in
    sym (c.loop-i.invariant
    ∙ reset-outside a.latches.now a.resets.now a.n c.loop-i.i c.loop-i-test.true c.requires.n_in_bounds_2
    (sym c.is_reset.ensures ∙ not-true c.is_reset.result c.if-not-is_reset.true-raw))

pub loop-i-preserved : goal.loop-i-preserved
loop-i-preserved c =
    let a = c.args in
    c.loop-i.invariant
    ∙ reset-inside a.latches.now a.resets.now a.n c.loop-i.i c.loop-i-test.true c.requires.n_in_bounds_2
    (sym c.is_reset.ensures ∙ not-false c.is_reset.result c.if-not-is_reset.false-raw)
