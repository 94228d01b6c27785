-- Each turn folds one gate.
use Prim.Native.Nat.{◌+◌}
use Rattle.reduce.proofs.folding.Loop.{Going}
use Rattle.reduce.proofs.folding.fold_gates.Given as goal

abbrev pub invariant-loop-k : goal.invariant-loop-k
invariant-loop-k l = Going l.gates l.initial.to l.initial.scratch l.to l.scratch l.base (l.base + l.a) l.a l.k l.n
