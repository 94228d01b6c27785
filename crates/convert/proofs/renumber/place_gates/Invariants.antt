-- Each turn places one gate.
use Rattle.convert.proofs.renumber.Placing.{Placed}
use Rattle.convert.proofs.renumber.place_gates.Given as goal

abbrev pub invariant-loop-i : goal.invariant-loop-i
invariant-loop-i l = Placed l.gates l.t l.first l.a l.initial.to l.to l.i
