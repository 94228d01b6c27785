-- The values of n resets go into words from `first` on. The loop keeps `Filled`. `filled_more` carries it from turn to turn,
-- and `filled-all` and `resets-loaded` give the answer.
use lib.ListN.{get_or}
use Rattle.plan.specs.Step.{reset_value}
use Rattle.step.specs.values.Words.{word}
use Rattle.step.proofs.values.Filling.{Filled}
use Rattle.step.proofs.values.load_resets.Given as goal

abbrev pub invariant-loop-i : goal.invariant-loop-i
invariant-loop-i l = Filled l.initial.t l.first (λ k. word (reset_value (get_or l.resets k 0))) l.i l.t
