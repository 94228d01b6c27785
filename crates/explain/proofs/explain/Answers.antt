-- Which places of state and inputs made an output 0 or 1: "1" for marked and "0" for not, in the first L + I bytes of the buffer, state first. The
-- answers are given by `refused-vector`, `bad-is` and `some-table`.
use Prim.Native.Nat.{ℕ}
use mathlib.Core.Path.{◌≡◌, sym, ap, ◌∙◌}
use lib.ListN.{length, replicate}
use Rattle.std.specs.Prelude.{Ok}
use Rattle.plan.specs.Circuit.{seven}
use Rattle.plan.specs.Outcome.{check_in_order}
use Rattle.judge.specs.Judged.{given_at}
use Rattle.step.proofs.Checks.{runs, room}
use Rattle.plan.specs.Explain.{ExplainEntry, vectors_stage}
use Rattle.explain.proofs.Answers.{bad-is, good-vectors, refused-tables, refused-vector, answered}
use Rattle.laws.proofs.Pairs.{passed-on}
use Rattle.explain.proofs.explain.Goals as goal

pub returns-in-Some : goal.returns-in-Some
returns-in-Some c =
    let entry : ExplainEntry =
    let a = c.args in
    record {
      circuit = given_at a.n (seven a.inputs.now a.latches.now a.outputs.now a.gates.now a.resets.now a.bads.now
          a.constraints.now) a.scratch.now;
      state = a.state.now;
      inputs = a.ins.now;
      output = a.output;
      marks = a.marks.now;
    } in
    let told : c.judge_in_order.result ≡ Ok tt =
    c.in_ok-judge_in_order.was in
    let says : c.judge_in_order.result ≡ (check_in_order (entry).circuit).answer =
    c.judge_in_order.ensures.value in
    let same : length c.judge_in_order.new.scratch ≡ length c.args.scratch.now =
    c.judge_in_order.auto.scratch in
    let e = entry in
    let zero = c.clear.ensures ∙ ap (λ (k : ℕ). replicate k 0) (same) in
    refused-vector e _ zero (says) (told) _ (sym (bad-is e) ∙ (sym c.bad_vector.ensures ∙ c.in-Some.is))

pub explain_output-answer-requires : goal.explain_output-answer-requires
explain_output-answer-requires c =
    let entry : ExplainEntry =
    let a = c.args in
    record {
      circuit = given_at a.n (seven a.inputs.now a.latches.now a.outputs.now a.gates.now a.resets.now a.bads.now
          a.constraints.now) a.scratch.now;
      state = a.state.now;
      inputs = a.ins.now;
      output = a.output;
      marks = a.marks.now;
    } in
    let told : c.judge_in_order.result ≡ Ok tt =
    c.in_ok-judge_in_order.was in
    let says : c.judge_in_order.result ≡ (check_in_order (entry).circuit).answer =
    c.judge_in_order.ensures.value in
    let same : length c.judge_in_order.new.scratch ≡ length c.args.scratch.now =
    c.judge_in_order.auto.scratch in
    let e = entry in
    record { room = room e.circuit (vectors_stage e) (says) (told) _ (same); vectors = good-vectors e (sym (bad-is e) ∙ (sym c.bad_vector.ensures ∙ c.in_default.is)) }

pub returns-in_err-judge_in_order : goal.returns-in_err-judge_in_order
returns-in_err-judge_in_order c =
    let entry : ExplainEntry =
    let a = c.args in
    record {
      circuit = given_at a.n (seven a.inputs.now a.latches.now a.outputs.now a.gates.now a.resets.now a.bads.now
          a.constraints.now) a.scratch.now;
      state = a.state.now;
      inputs = a.ins.now;
      output = a.output;
      marks = a.marks.now;
    } in
    let e = entry in
    let refused = c.in_err-judge_in_order.was in
    rw (passed-on _ c.from_residual.ensures.1) (
    refused-tables e _ (c.judge_in_order.ensures.scratch_after _ refused) c.judge_in_order.ensures.value _ refused)

pub returns : goal.returns
returns c =
    let entry : ExplainEntry =
    let a = c.args in
    record {
      circuit = given_at a.n (seven a.inputs.now a.latches.now a.outputs.now a.gates.now a.resets.now a.bads.now
          a.constraints.now) a.scratch.now;
      state = a.state.now;
      inputs = a.ins.now;
      output = a.output;
      marks = a.marks.now;
    } in
    let told : c.judge_in_order.result ≡ Ok tt =
    c.in_ok-judge_in_order.was in
    let says : c.judge_in_order.result ≡ (check_in_order (entry).circuit).answer =
    c.judge_in_order.ensures.value in
    let same : length c.judge_in_order.new.scratch ≡ length c.args.scratch.now =
    c.judge_in_order.auto.scratch in
    let e = entry in
    let long = c.explain_output-answer.auto.scratch ∙ same in
    let zero = c.clear-2.ensures ∙ ap (λ (k : ℕ). replicate k 0) long in
    answered e _ zero (says) (told) (sym (bad-is e) ∙ (sym c.bad_vector.ensures ∙ c.in_default.is)) _ _
    (c.explain_output-answer.ensures e.circuit.tables e.circuit.scratch (runs e.circuit (vectors_stage e) (says) (told)))
