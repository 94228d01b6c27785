-- A vector's values go into words from `first` on. The loop keeps `Filled`. `filled_more` carries it from turn to
-- turn, and `filled-all` and `loaded` give the answer.
use lib.ListN.{get_or}
use Rattle.plan.specs.Step.{value_of}
use Rattle.step.specs.values.Words.{word}
use Rattle.step.proofs.values.Filling.{Filled}
use Rattle.step.proofs.values.load.Given as goal

abbrev pub invariant-loop-i : goal.invariant-loop-i
invariant-loop-i l = Filled l.initial.t l.first (λ k. word (value_of (get_or l.codes k 0))) l.i l.t
