-- The values below gate j are there.
use Rattle.rewire.proofs.Codes.{Going}
use Rattle.rewire.proofs.recompute.Given as goal

abbrev pub invariant-loop-j : goal.invariant-loop-j
invariant-loop-j l = Going l.gates l.k l.a l.base l.initial.values l.values l.j
