-- The values of words from `first` on fill a vector. The loop keeps `Filled`. `filled-front` carries it from turn
-- to turn, and `filled-all` and `stored` give the answer.
use Prim.Native.Nat.{◌+◌}
use lib.ListN.{get_or}
use Rattle.plan.specs.Step.{code_of}
use Rattle.step.specs.values.Words.{told}
use Rattle.step.proofs.values.Filling.{Filled}
use Rattle.step.proofs.values.store.Given as goal

abbrev pub invariant-loop-i : goal.invariant-loop-i
invariant-loop-i l = Filled l.initial.codes 0 (λ k. code_of (told (get_or l.t (l.first + k) 0))) l.i l.codes
