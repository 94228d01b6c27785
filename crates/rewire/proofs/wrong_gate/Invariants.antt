-- The values below gate j are right.
use Rattle.rewire.proofs.Wrong.{Gating}
use Rattle.rewire.proofs.wrong_gate.Given as goal

abbrev pub invariant-loop-j : goal.invariant-loop-j
invariant-loop-j l = Gating l.gates l.a l.base l.values l.j
