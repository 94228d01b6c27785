-- Scratch is cleared afterwards.
use Prim.Native.Nat.{ℕ}
use mathlib.Core.Path.{ap, ◌∙◌}
use mathlib.Core.Bool.{false≢true}
use lib.ListN.{replicate}
use Rattle.plan.specs.Circuit.{Tables, seven}
use Rattle.plan.specs.Given.{Given}
use Rattle.judge.specs.Judged.{given_at}
use Rattle.judge.proofs.Stages.{same_answer}
use Rattle.judge.proofs.check_to_make.Goals as goal

pub judge-answer-requires : goal.judge-answer-requires
judge-answer-requires c = λ asked. absurd (false≢true asked)

pub returns : goal.returns
returns c =
    let tables : Tables =
    let a = c.args in
    seven a.inputs.now a.latches.now a.outputs.now a.gates.now a.resets.now a.bads.now a.constraints.now in
    let entry : Given =
    given_at c.args.n (tables) c.args.scratch.now in
    λ t sizes.
    let answer = c.judge-answer.ensures.result_value ∙ same_answer (entry) c.args.to t sizes c.args.ordered in
    let cleared = c.clear.ensures ∙ ap (λ (k : ℕ). replicate k 0) c.judge-answer.auto.scratch in
    λ i. record { answer = answer i; scratch = cleared i }
