-- The values of as many resets fill a state: the first one of a run. The loop keeps `Filled`. `filled-front` and `told-word` carry it from turn to
-- turn, and `filled-all` and `state-filled` give the answer.
use mathlib.Core.Path.{ap, ◌∙◌}
use native.Mathlib.Omega.{arith}
use lib.ListN.{length}
use Rattle.plan.specs.Step.{code_of, reset_value}
use Rattle.step.specs.values.Words.{told}
use Rattle.step.proofs.values.Filling.{filled-front, filled-all}
use Rattle.step.proofs.values.Codes.{told-word, state-filled}
use Rattle.step.proofs.values.first_state.Goals as goal

pub loop-i-preserved : goal.loop-i-preserved
loop-i-preserved c =
    filled-front _ _ c.loop-i.i c.loop-i.state _ c.loop-i.invariant (omega arith)
    (c.code_of.ensures
    ∙ ap code_of (ap told c.word_of_reset.ensures ∙ (told-word (reset_value c.reset_at.result) ∙ ap reset_value c.reset_at.ensures)))

pub returns : goal.returns
returns c =
    filled-all _ _ _ (length c.args.state.now) c.loop-i.i c.loop-i.state c.loop-i.invariant (omega arith)
    ∙ state-filled c.args.resets.now c.args.state.now
