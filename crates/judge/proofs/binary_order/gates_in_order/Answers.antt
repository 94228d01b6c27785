-- The gates that are left decide: the first of them at each turn, and none at the end.
use mathlib.Core.Path.{◌∙◌}
use Rattle.judge.proofs.binary_order.Steps.{order-turn, test-fails, test-passes}
use Rattle.judge.proofs.binary_order.gates_in_order.Goals as goal

pub returns-then-not-stands_at : goal.returns-then-not-stands_at
returns-then-not-stands_at c =
    let a = c.args in
    test-fails _ _ _ _ (c.loop-i.invariant ∙ order-turn a.gates.now a.first a.n c.loop-i.i c.loop-i-test.true)
    c.stands_at.ensures c.if-not-stands_at.true-raw

pub loop-i-preserved : goal.loop-i-preserved
loop-i-preserved c =
    let a = c.args in
    test-passes _ _ _ _ (c.loop-i.invariant ∙ order-turn a.gates.now a.first a.n c.loop-i.i c.loop-i-test.true)
    c.stands_at.ensures c.if-not-stands_at.false-raw
