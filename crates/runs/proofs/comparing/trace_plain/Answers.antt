-- A part of a run by the plain engine: as many whole lines as fit into `out`, from the state that is given; the state after them goes over it. The
-- answers are given by `refused-lines`, `refused-tables` and `refused-plainly`.
use Prim.Native.Nat.{ℕ}
use mathlib.Core.Path.{◌≡◌, sym, ap, ◌∙◌}
use Rattle.std.specs.Prelude.{Ok}
use native.Mathlib.Omega.{arith}
use lib.ListN.{length, replicate}
use Rattle.plan.specs.Circuit.{seven}
use Rattle.plan.specs.Outcome.{check_in_order}
use Rattle.plan.specs.Whole.{TraceEntry, trace_stage}
use Rattle.laws.proofs.Pairs.{passed-on}
use Rattle.step.proofs.Checks.{past-check, runs, room}
use Rattle.runs.proofs.trace.Answers.{listed, done-trace}
use Rattle.plain.proofs.Beyond.{refused-tables}
use Rattle.runs.proofs.comparing.Answers.{same_lines, refused-lines, state-vector, few-gates, lines-judged, refused-plainly}
use Rattle.runs.proofs.comparing.trace_plain.Goals as goal

pub fitting-number-requires : goal.fitting-number-requires
fitting-number-requires c =
    let entry : TraceEntry =
    let a = c.args in
    record {
      circuit = record {
        counts = a.n;
        tables = seven a.inputs.now a.latches.now a.outputs.now a.gates.now a.resets.now a.bads.now a.constraints.now;
        scratch = a.scratch.now;
      };
      state = a.state.now;
      vectors = a.vectors.now;
      out = a.out.now;
    } in
    let told : c.judge_in_order.result ≡ Ok tt =
    c.in_ok-judge_in_order.was in
    let says : c.judge_in_order.result ≡ (check_in_order (entry).circuit).answer =
    c.judge_in_order.ensures.value in
    let e = entry in
    let f = (runs e.circuit (trace_stage e) (says) (told)).fits in
    (omega (arith, f.sum, f.most-M), f.most-O)

pub plain_lines-requires : goal.plain_lines-requires
plain_lines-requires c =
    let entry : TraceEntry =
    let a = c.args in
    record {
      circuit = record {
        counts = a.n;
        tables = seven a.inputs.now a.latches.now a.outputs.now a.gates.now a.resets.now a.bads.now a.constraints.now;
        scratch = a.scratch.now;
      };
      state = a.state.now;
      vectors = a.vectors.now;
      out = a.out.now;
    } in
    let told : c.judge_in_order.result ≡ Ok tt =
    c.in_ok-judge_in_order.was in
    let says : c.judge_in_order.result ≡ (check_in_order (entry).circuit).answer =
    c.judge_in_order.ensures.value in
    let same : length c.judge_in_order.new.scratch ≡ length c.args.scratch.now =
    c.judge_in_order.auto.scratch in
    let e = entry in
    let lines = c.in-Ok.is in
    let judged = lines-judged e _ c.judge_plain-judged.ensures _ lines in
    record { room = room e.circuit (trace_stage e) (says) (told) _ (same); vector = state-vector e _ judged _ lines; listed = listed e _ judged _ lines _ c.fitting-number.ensures }

pub returns-in_err-judge_in_order : goal.returns-in_err-judge_in_order
returns-in_err-judge_in_order c =
    let entry : TraceEntry =
    let a = c.args in
    record {
      circuit = record {
        counts = a.n;
        tables = seven a.inputs.now a.latches.now a.outputs.now a.gates.now a.resets.now a.bads.now a.constraints.now;
        scratch = a.scratch.now;
      };
      state = a.state.now;
      vectors = a.vectors.now;
      out = a.out.now;
    } in
    let e = entry in
    let refused = c.in_err-judge_in_order.was in
    rw (passed-on _ c.from_residual.ensures.1)
    (refused-lines e _ (c.judge_in_order.ensures.scratch_after _ refused) _
    (refused-tables e.circuit (trace_stage e) c.judge_in_order.ensures.value _ refused))

pub returns-in_default : goal.returns-in_default
returns-in_default c =
    let entry : TraceEntry =
    let a = c.args in
    record {
      circuit = record {
        counts = a.n;
        tables = seven a.inputs.now a.latches.now a.outputs.now a.gates.now a.resets.now a.bads.now a.constraints.now;
        scratch = a.scratch.now;
      };
      state = a.state.now;
      vectors = a.vectors.now;
      out = a.out.now;
    } in
    let told : c.judge_in_order.result ≡ Ok tt =
    c.in_ok-judge_in_order.was in
    let says : c.judge_in_order.result ≡ (check_in_order (entry).circuit).answer =
    c.judge_in_order.ensures.value in
    let same : length c.judge_in_order.new.scratch ≡ length c.args.scratch.now =
    c.judge_in_order.auto.scratch in
    let e = entry in
    let zero = c.clear.ensures ∙ ap (λ (k : ℕ). replicate k 0) (same) in
    rw c.in_default.is
    (refused-plainly e _ c.judge_plain-judged.ensures _ zero (says) (told) _ c.in_default.is)

pub returns : goal.returns
returns c =
    let entry : TraceEntry =
    let a = c.args in
    record {
      circuit = record {
        counts = a.n;
        tables = seven a.inputs.now a.latches.now a.outputs.now a.gates.now a.resets.now a.bads.now a.constraints.now;
        scratch = a.scratch.now;
      };
      state = a.state.now;
      vectors = a.vectors.now;
      out = a.out.now;
    } in
    let told : c.judge_in_order.result ≡ Ok tt =
    c.in_ok-judge_in_order.was in
    let says : c.judge_in_order.result ≡ (check_in_order (entry).circuit).answer =
    c.judge_in_order.ensures.value in
    let same : length c.judge_in_order.new.scratch ≡ length c.args.scratch.now =
    c.judge_in_order.auto.scratch in
    let e = entry in
    let lines = c.in-Ok.is in
    let judged = c.judge_plain-judged.ensures in
    let zero = c.clear-2.ensures ∙ ap (λ (k : ℕ). replicate k 0) (c.plain_lines.auto.scratch ∙ same) in
    let left = c.plain_lines.ensures e.circuit.tables (runs e.circuit (trace_stage e) (says) (told)) in
    done-trace e _ (lines-judged e _ judged _ lines) _ zero (past-check e.circuit (trace_stage e) (says) (told)) _ lines _ c.fitting-number.ensures _ _ left
    ∙ sym (same_lines e (few-gates e _ judged _ lines))
