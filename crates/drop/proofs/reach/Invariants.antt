-- From the last gate to the first: in binary order a gate is marked, if at all, before it is come to.
use Rattle.drop.proofs.Marking.{Walking}
use Rattle.drop.proofs.reach.Given as goal

abbrev pub invariant-loop-k : goal.invariant-loop-k
invariant-loop-k l = Walking l.gates l.a l.initial.t l.t l.k
