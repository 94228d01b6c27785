-- Of the first n variables those below v are right.
use mathlib.Core.List.{[]}
use Rattle.rewire.proofs.Wrong.{Judging}
use Rattle.rewire.proofs.wrong_leaf.Given as goal

abbrev pub invariant-loop-v : goal.invariant-loop-v
invariant-loop-v l = Judging [] l.values 0 l.n l.v
