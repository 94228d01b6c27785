-- Each turn places one gate.
use Rattle.convert.proofs.renumber.Placing.{one_placed, all_placed}
use Rattle.convert.proofs.renumber.place_gates.Goals as goal

pub loop-i-preserved : goal.loop-i-preserved
loop-i-preserved c =
    let a = c.args in
    one_placed a.gates.now a.t.now a.first a.a a.to.now c.requires.a_in_bounds.1 c.loop-i.to c.loop-i.i c.loop-i.invariant
    c.loop-i-test.true (c.requires.by_index c.loop-i.i c.loop-i-test.true) _ c.place_gate.ensures

pub returns : goal.returns
returns c =
    let a = c.args in
    all_placed a.gates.now a.t.now a.first a.a a.to.now c.loop-i.to c.loop-i.i c.loop-i.invariant c.loop-i-test.false
