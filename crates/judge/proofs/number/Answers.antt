-- Numbers stay where nothing is refused; else scratch is cleared.
use Prim.Native.Nat.{ℕ}
use mathlib.Core.Path.{refl, sym, ap, ◌∙◌}
use mathlib.Core.Bool.{false}
use lib.ListN.{replicate}
use Rattle.plan.specs.Circuit.{Tables, seven}
use Rattle.plan.specs.Given.{Given}
use Rattle.judge.specs.Judged.{given_at}
use Rattle.judge.proofs.at_end.Closing.{not_good}
use Rattle.judge.proofs.Stages.{same_answer}
use Rattle.judge.proofs.number.Goals as goal

pub judge-answer-requires : goal.judge-answer-requires
judge-answer-requires c = λ asked. refl

pub returns-in-Err : goal.returns-in-Err
returns-in-Err c =
    let tables : Tables =
    let a = c.args in
    seven a.inputs.now a.latches.now a.outputs.now a.gates.now a.resets.now a.bads.now a.constraints.now in
    let entry : Given =
    given_at c.args.n (tables) c.args.scratch.now in
    record { fact = λ t sizes. sym c.in-Err.is ∙ (c.judge-answer.ensures.result_value ∙ same_answer (entry) c.args.to t sizes false); all_numbered = λ good. not_good _ good; scratch_after = λ q told. c.clear.ensures ∙ ap (λ (k : ℕ). replicate k 0) c.judge-answer.auto.scratch }

pub returns : goal.returns
returns c =
    let tables : Tables =
    let a = c.args in
    seven a.inputs.now a.latches.now a.outputs.now a.gates.now a.resets.now a.bads.now a.constraints.now in
    let entry : Given =
    given_at c.args.n (tables) c.args.scratch.now in
    record { fact = λ t sizes. c.judge-answer.ensures.result_value ∙ same_answer (entry) c.args.to t sizes false; all_numbered = λ good. c.judge-answer.ensures.all_numbered refl good; scratch_after = λ q told. not_good q (sym told ∙ c.in_default.is) }
