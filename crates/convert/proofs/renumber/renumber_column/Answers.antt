-- Each turn writes one literal.
use Prim.Native.Nat.{ℕ}
use mathlib.Core.Path.{ap, ◌∙◌}
use Rattle.plan.specs.Literals.{lit_at, word_of}
use Rattle.convert.specs.renumber.Renumbered.{literal_by, column_by}
use Rattle.convert.proofs.renumber.Columns.{one_written}
use Rattle.convert.proofs.renumber.renumber_column.Goals as goal

pub loop-i-preserved : goal.loop-i-preserved
loop-i-preserved c =
    let a = c.args in
    let lit = c.renumbered.ensures ∙ ap (λ (w : ℕ). lit_at (literal_by a.t.now w)) (ap word_of c.at.ensures) in
    one_written (column_by a.t.now a.table.now a.stride a.column) a.n a.to.now c.requires.n_in_bounds_2 c.loop-i.to c.loop-i.i
    c.loop-i.invariant c.loop-i-test.true _ (c.word.ensures ∙ ap word_of lit)
