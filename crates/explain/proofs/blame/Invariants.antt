-- From the last gate to the first: in binary order a gate is marked, if at all, before it is come to. The loop keeps `Walking`; `walking-more`
-- carries it from turn to turn.
use Rattle.explain.proofs.Blaming.{Walking}
use Rattle.explain.proofs.blame.Given as goal

abbrev pub invariant-loop-k : goal.invariant-loop-k
invariant-loop-k l = Walking l.gates l.a l.lits l.m l.n l.initial.t l.t l.k
