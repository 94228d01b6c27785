-- Each turn retains one gate, or none.
use Rattle.drop.proofs.Retaining.{Going}
use Rattle.drop.proofs.retain_gates.Given as goal

abbrev pub invariant-loop-k : goal.invariant-loop-k
invariant-loop-k l = Going l.gates l.initial.to l.initial.t l.to l.t l.base l.a l.k l.n
