-- The values of as many resets fill a state: the first one of a run. The loop keeps `Filled`. `filled-front` and
-- `told-word` carry it from turn to turn, and `filled-all` and `state-filled` give the answer.
use lib.ListN.{get_or}
use Rattle.plan.specs.Step.{code_of, reset_value}
use Rattle.step.proofs.values.Filling.{Filled}
use Rattle.step.proofs.values.first_state.Given as goal

abbrev pub invariant-loop-i : goal.invariant-loop-i
invariant-loop-i l = Filled l.initial.state 0 (λ k. code_of (reset_value (get_or l.resets k 0))) l.i l.state
