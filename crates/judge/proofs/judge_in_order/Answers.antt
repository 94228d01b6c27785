-- The given tables' own sizes; scratch is cleared where something is refused.
use Prim.Native.Nat.{ℕ}
use mathlib.Core.Path.{◌≡◌, sym, ap, ◌∙◌}
use mathlib.Core.Bool.{true, false≢true}
use lib.ListN.{replicate}
use Rattle.plan.specs.Circuit.{Tables, seven}
use Rattle.plan.specs.Given.{Given}
use Rattle.judge.specs.Judged.{given_at}
use Rattle.plan.specs.Outcome.{CheckExit, check_in_order}
use Rattle.judge.proofs.at_end.Closing.{not_good}
use Rattle.judge.proofs.Stages.{same_answer, alone-answer}
use Rattle.judge.proofs.judge_in_order.Goals as goal

pub judge-answer-requires : goal.judge-answer-requires
judge-answer-requires c = λ asked. absurd (false≢true asked)

pub returns-in-Err : goal.returns-in-Err
returns-in-Err c =
    let tables : Tables =
    let a = c.args in
    seven a.inputs.now a.latches.now a.outputs.now a.gates.now a.resets.now a.bads.now a.constraints.now in
    let entry : Given =
    given_at c.args.n (tables) c.args.scratch.now in
    let told : c.judge-answer.result ≡ (check_in_order (entry)).answer =
    let g = entry in
    c.judge-answer.ensures.result_value
    ∙ (same_answer g c.lengths-to.result g.tables c.lengths-to.ensures true
    ∙ ap (λ (x : CheckExit). x.answer) (alone-answer true g)) in
    record { value = told; scratch_after = λ q refused. c.clear.ensures ∙ ap (λ (k : ℕ). replicate k 0) c.judge-answer.auto.scratch }

pub returns : goal.returns
returns c =
    let tables : Tables =
    let a = c.args in
    seven a.inputs.now a.latches.now a.outputs.now a.gates.now a.resets.now a.bads.now a.constraints.now in
    let entry : Given =
    given_at c.args.n (tables) c.args.scratch.now in
    let told : c.judge-answer.result ≡ (check_in_order (entry)).answer =
    let g = entry in
    c.judge-answer.ensures.result_value
    ∙ (same_answer g c.lengths-to.result g.tables c.lengths-to.ensures true
    ∙ ap (λ (x : CheckExit). x.answer) (alone-answer true g)) in
    record { value = told; scratch_after = λ q refused. not_good q (sym refused ∙ c.in_default.is) }
