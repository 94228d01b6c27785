-- One step: the outputs go into their buffer, and the next state over the state. The answers are given by `refused-vector`, `past-check` and
-- `some-table`.
use Prim.Native.Nat.{ℕ}
use mathlib.Core.Path.{◌≡◌, ap, ◌∙◌, sym}
use lib.ListN.{length, replicate}
use Rattle.std.specs.Prelude.{Ok}
use Rattle.plan.specs.Circuit.{seven}
use Rattle.plan.specs.Outcome.{StepEntry, check_in_order, step_stage}
use Rattle.step.proofs.Checks.{refused-by, past-check, runs, room}
use Rattle.step.proofs.Answers.{good-vectors, refused-step, refused-vector, done-step}
use Rattle.laws.proofs.Pairs.{passed-on}
use Rattle.step.proofs.step.Goals as goal

pub returns-in-Some : goal.returns-in-Some
returns-in-Some c =
    let entry : StepEntry =
    let a = c.args in
    record {
      circuit = record {
        counts = a.n;
        tables = seven a.inputs.now a.latches.now a.outputs.now a.gates.now a.resets.now a.bads.now a.constraints.now;
        scratch = a.scratch.now;
      };
      state = a.state.now;
      inputs = a.ins.now;
      outputs = a.outs.now;
    } in
    let told : c.judge_in_order.result ≡ Ok tt =
    c.in_ok-judge_in_order.was in
    let says : c.judge_in_order.result ≡ (check_in_order (entry).circuit).answer =
    c.judge_in_order.ensures.value in
    let same : length c.judge_in_order.new.scratch ≡ length c.args.scratch.now =
    c.judge_in_order.auto.scratch in
    let e = entry in
    let zero = c.clear.ensures ∙ ap (λ (k : ℕ). replicate k 0) (same) in
    refused-vector e _ zero (past-check e.circuit (step_stage e) (says) (told)) _
    (sym c.bad_vector.ensures ∙ c.in-Some.is)

pub step_vectors-requires : goal.step_vectors-requires
step_vectors-requires c =
    let entry : StepEntry =
    let a = c.args in
    record {
      circuit = record {
        counts = a.n;
        tables = seven a.inputs.now a.latches.now a.outputs.now a.gates.now a.resets.now a.bads.now a.constraints.now;
        scratch = a.scratch.now;
      };
      state = a.state.now;
      inputs = a.ins.now;
      outputs = a.outs.now;
    } in
    let told : c.judge_in_order.result ≡ Ok tt =
    c.in_ok-judge_in_order.was in
    let says : c.judge_in_order.result ≡ (check_in_order (entry).circuit).answer =
    c.judge_in_order.ensures.value in
    let same : length c.judge_in_order.new.scratch ≡ length c.args.scratch.now =
    c.judge_in_order.auto.scratch in
    let e = entry in
    record { room = room e.circuit (step_stage e) (says) (told) _ (same); vectors = good-vectors e (sym c.bad_vector.ensures ∙ c.in_default.is) }

pub returns-in_err-judge_in_order : goal.returns-in_err-judge_in_order
returns-in_err-judge_in_order c =
    let entry : StepEntry =
    let a = c.args in
    record {
      circuit = record {
        counts = a.n;
        tables = seven a.inputs.now a.latches.now a.outputs.now a.gates.now a.resets.now a.bads.now a.constraints.now;
        scratch = a.scratch.now;
      };
      state = a.state.now;
      inputs = a.ins.now;
      outputs = a.outs.now;
    } in
    let e = entry in
    let refused = c.in_err-judge_in_order.was in
    rw (passed-on _ c.from_residual.ensures.1) (
    refused-step e _ (c.judge_in_order.ensures.scratch_after _ refused) _
    (refused-by e.circuit (step_stage e) c.judge_in_order.ensures.value _ refused))

pub returns : goal.returns
returns c =
    let entry : StepEntry =
    let a = c.args in
    record {
      circuit = record {
        counts = a.n;
        tables = seven a.inputs.now a.latches.now a.outputs.now a.gates.now a.resets.now a.bads.now a.constraints.now;
        scratch = a.scratch.now;
      };
      state = a.state.now;
      inputs = a.ins.now;
      outputs = a.outs.now;
    } in
    let told : c.judge_in_order.result ≡ Ok tt =
    c.in_ok-judge_in_order.was in
    let says : c.judge_in_order.result ≡ (check_in_order (entry).circuit).answer =
    c.judge_in_order.ensures.value in
    let same : length c.judge_in_order.new.scratch ≡ length c.args.scratch.now =
    c.judge_in_order.auto.scratch in
    let e = entry in
    let zero = c.clear-2.ensures ∙ ap (λ (k : ℕ). replicate k 0) (c.step_vectors.auto.scratch ∙ same) in
    done-step e _ zero (past-check e.circuit (step_stage e) (says) (told))
    (sym c.bad_vector.ensures ∙ c.in_default.is) _ _
    (c.step_vectors.ensures e.circuit.tables (runs e.circuit (step_stage e) (says) (told)))
