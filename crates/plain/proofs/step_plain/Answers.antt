-- One step by the rules alone: the outputs go into their buffer, and the next state over the state. The answers are given by `refused-plain`,
-- `refused-gates` and `refused-vector`.
use Prim.Native.Nat.{ℕ}
use mathlib.Core.Path.{◌≡◌, sym, ap, ◌∙◌}
use lib.ListN.{length, replicate}
use Rattle.std.specs.Prelude.{Ok}
use Rattle.plan.specs.Circuit.{seven}
use Rattle.plan.specs.Outcome.{StepEntry, check_in_order, step_stage}
use Rattle.step.proofs.Checks.{past-check, runs, room}
use Rattle.step.proofs.Answers.{good-vectors, refused-vector, done-step}
use Rattle.plain.proofs.Beyond.{refused-tables, refused-gates}
use Rattle.plain.proofs.Answers.{same-engine, refused-plain, good-codes}
use Rattle.laws.proofs.Pairs.{passed-on}
use Rattle.plain.proofs.step_plain.Goals as goal

pub returns-then-n-gt-TEACHING : goal.returns-then-n-gt-TEACHING
returns-then-n-gt-TEACHING c =
    let entry : StepEntry =
    let a = c.args in
    record {
      circuit = record {
        counts = a.n;
        tables = seven a.inputs.now a.latches.now a.outputs.now a.gates.now a.resets.now a.bads.now a.constraints.now;
        scratch = a.scratch.now;
      };
      state = a.state.now;
      inputs = a.ins.now;
      outputs = a.outs.now;
    } in
    let told : c.judge_in_order.result ≡ Ok tt =
    c.in_ok-judge_in_order.was in
    let says : c.judge_in_order.result ≡ (check_in_order (entry).circuit).answer =
    c.judge_in_order.ensures.value in
    let same : length c.judge_in_order.new.scratch ≡ length c.args.scratch.now =
    c.judge_in_order.auto.scratch in
    let e = entry in
    let zero = c.clear.ensures ∙ ap (λ (k : ℕ). replicate k 0) (same) in
    refused-plain e _ zero _ (refused-gates e.circuit (step_stage e) (says) (told) c.if-n-gt-TEACHING.true)

pub returns-in-Some : goal.returns-in-Some
returns-in-Some c =
    let entry : StepEntry =
    let a = c.args in
    record {
      circuit = record {
        counts = a.n;
        tables = seven a.inputs.now a.latches.now a.outputs.now a.gates.now a.resets.now a.bads.now a.constraints.now;
        scratch = a.scratch.now;
      };
      state = a.state.now;
      inputs = a.ins.now;
      outputs = a.outs.now;
    } in
    let told : c.judge_in_order.result ≡ Ok tt =
    c.in_ok-judge_in_order.was in
    let says : c.judge_in_order.result ≡ (check_in_order (entry).circuit).answer =
    c.judge_in_order.ensures.value in
    let same : length c.judge_in_order.new.scratch ≡ length c.args.scratch.now =
    c.judge_in_order.auto.scratch in
    let e = entry in
    let zero = c.clear-in-Some.ensures ∙ ap (λ (k : ℕ). replicate k 0) (same) in
    refused-vector e _ zero (past-check e.circuit (step_stage e) (says) (told)) _
    (sym c.bad_vector.ensures ∙ c.in-Some.is)
    ∙ sym (same-engine e c.if-n-gt-TEACHING.false)

pub plain_vectors-requires : goal.plain_vectors-requires
plain_vectors-requires c =
    let entry : StepEntry =
    let a = c.args in
    record {
      circuit = record {
        counts = a.n;
        tables = seven a.inputs.now a.latches.now a.outputs.now a.gates.now a.resets.now a.bads.now a.constraints.now;
        scratch = a.scratch.now;
      };
      state = a.state.now;
      inputs = a.ins.now;
      outputs = a.outs.now;
    } in
    let told : c.judge_in_order.result ≡ Ok tt =
    c.in_ok-judge_in_order.was in
    let says : c.judge_in_order.result ≡ (check_in_order (entry).circuit).answer =
    c.judge_in_order.ensures.value in
    let same : length c.judge_in_order.new.scratch ≡ length c.args.scratch.now =
    c.judge_in_order.auto.scratch in
    let e = entry in
    let none-bad = sym c.bad_vector.ensures ∙ c.in_default.is in
    record {
      room = room e.circuit (step_stage e) says told _ same;
      vectors = good-vectors e none-bad;
      state_value = (good-codes e none-bad).0;
      ins_value = (good-codes e none-bad).1;
    }

pub returns-in_err-judge_in_order : goal.returns-in_err-judge_in_order
returns-in_err-judge_in_order c =
    let entry : StepEntry =
    let a = c.args in
    record {
      circuit = record {
        counts = a.n;
        tables = seven a.inputs.now a.latches.now a.outputs.now a.gates.now a.resets.now a.bads.now a.constraints.now;
        scratch = a.scratch.now;
      };
      state = a.state.now;
      inputs = a.ins.now;
      outputs = a.outs.now;
    } in
    let e = entry in
    let refused = c.in_err-judge_in_order.was in
    rw (passed-on _ c.from_residual.ensures.1) (
    refused-plain e _ (c.judge_in_order.ensures.scratch_after _ refused) _
    (refused-tables e.circuit (step_stage e) c.judge_in_order.ensures.value _ refused))

pub returns : goal.returns
returns c =
    let entry : StepEntry =
    let a = c.args in
    record {
      circuit = record {
        counts = a.n;
        tables = seven a.inputs.now a.latches.now a.outputs.now a.gates.now a.resets.now a.bads.now a.constraints.now;
        scratch = a.scratch.now;
      };
      state = a.state.now;
      inputs = a.ins.now;
      outputs = a.outs.now;
    } in
    let told : c.judge_in_order.result ≡ Ok tt =
    c.in_ok-judge_in_order.was in
    let says : c.judge_in_order.result ≡ (check_in_order (entry).circuit).answer =
    c.judge_in_order.ensures.value in
    let same : length c.judge_in_order.new.scratch ≡ length c.args.scratch.now =
    c.judge_in_order.auto.scratch in
    let e = entry in
    let zero = c.clear-2.ensures ∙ ap (λ (k : ℕ). replicate k 0) (c.plain_vectors.auto.scratch ∙ same) in
    done-step e _ zero (past-check e.circuit (step_stage e) (says) (told))
    (sym c.bad_vector.ensures ∙ c.in_default.is) _ _
    (c.plain_vectors.ensures e.circuit.tables (runs e.circuit (step_stage e) (says) (told)))
    ∙ sym (same-engine e c.if-n-gt-TEACHING.false)
