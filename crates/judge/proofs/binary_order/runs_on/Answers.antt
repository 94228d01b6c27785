-- The rows that are left decide: the first of them at each turn, and none at the end.
use mathlib.Core.Path.{◌∙◌}
use Rattle.judge.proofs.binary_order.Steps.{runs-turn, test-fails, test-passes}
use Rattle.judge.proofs.binary_order.runs_on.Goals as goal

pub returns-then-not-stands_for : goal.returns-then-not-stands_for
returns-then-not-stands_for c =
    let a = c.args in
    test-fails _ _ _ _ (c.loop-i.invariant ∙ runs-turn a.table.now a.stride a.first a.n c.loop-i.i c.requires.stride_nonzero c.loop-i-test.true)
    c.stands_for.ensures c.if-not-stands_for.true-raw

pub loop-i-preserved : goal.loop-i-preserved
loop-i-preserved c =
    let a = c.args in
    test-passes _ _ _ _ (c.loop-i.invariant ∙ runs-turn a.table.now a.stride a.first a.n c.loop-i.i c.requires.stride_nonzero c.loop-i-test.true)
    c.stands_for.ensures c.if-not-stands_for.false-raw
