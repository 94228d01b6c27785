-- The rows that are left decide: the first of them at each turn, and none at the end.
use mathlib.Core.Path.{sym, ◌∙◌}
use borrow.Author.Tests.{not-false}
use Rattle.judge.proofs.ranges.Steps.{row_inside}
use Rattle.judge.proofs.ranges.rows_within.Goals as goal

pub loop-i-preserved : goal.loop-i-preserved
loop-i-preserved c =
    let a = c.args in
    c.loop-i.invariant
    ∙ row_inside a.defines a.m a.table.now a.k a.n c.loop-i.i c.loop-i-test.true
    (sym c.row_within.ensures ∙ not-false c.row_within.result c.if-not-row_within.false-raw)
