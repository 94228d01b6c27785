-- One step of each row from the resets: next states and outputs go into their buffers, L and O bytes a row. The answers are given by `refused-late`,
-- `past-check` and `too_many`.
use Prim.Native.Nat.{ℕ}
use mathlib.Core.Path.{◌≡◌, sym, ap, ◌∙◌}
use Rattle.std.specs.Prelude.{Ok}
use native.Mathlib.Omega.{arith}
use lib.ListN.{length, replicate}
use Rattle.plan.specs.Circuit.{seven}
use Rattle.plan.specs.Outcome.{check_in_order}
use Rattle.step.proofs.Checks.{refused-by, past-check, runs, room}
use Rattle.plan.specs.Rows.{RowsEntry, row_stage}
use Rattle.rows.proofs.Lists.{good-lists, too_many, few-bad, few-good, refused-rows, refused-late, done-rows}
use Rattle.laws.proofs.Pairs.{passed-on}
use Rattle.rows.proofs.step_rows.Goals as goal

pub returns-then-rows-gt64 : goal.returns-then-rows-gt64
returns-then-rows-gt64 c =
    let entry : RowsEntry =
    let a = c.args in
    record {
      circuit = record {
        counts = a.n;
        tables = seven a.inputs.now a.latches.now a.outputs.now a.gates.now a.resets.now a.bads.now a.constraints.now;
        scratch = a.scratch.now;
      };
      rows = a.rows;
      nexts = a.nexts.now;
      inputs = a.ins.now;
      outputs = a.outs.now;
    } in
    let told : c.judge_in_order.result ≡ Ok tt =
    c.in_ok-judge_in_order.was in
    let says : c.judge_in_order.result ≡ (check_in_order (entry).circuit).answer =
    c.judge_in_order.ensures.value in
    let same : length c.judge_in_order.new.scratch ≡ length c.args.scratch.now =
    c.judge_in_order.auto.scratch in
    let e = entry in
    let zero = c.clear.ensures ∙ ap (λ (k : ℕ). replicate k 0) (same) in
    refused-late e _ zero (past-check e.circuit (row_stage e) (says) (told)) _ (too_many e c.if-rows-gt64.true)

pub bad_rows-requires : goal.bad_rows-requires
bad_rows-requires c =
    let entry : RowsEntry =
    let a = c.args in
    record {
      circuit = record {
        counts = a.n;
        tables = seven a.inputs.now a.latches.now a.outputs.now a.gates.now a.resets.now a.bads.now a.constraints.now;
        scratch = a.scratch.now;
      };
      rows = a.rows;
      nexts = a.nexts.now;
      inputs = a.ins.now;
      outputs = a.outs.now;
    } in
    let told : c.judge_in_order.result ≡ Ok tt =
    c.in_ok-judge_in_order.was in
    let says : c.judge_in_order.result ≡ (check_in_order (entry).circuit).answer =
    c.judge_in_order.ensures.value in
    let e = entry in
    let f = (runs e.circuit (row_stage e) (says) (told)).fits in
    record { rows_bound = omega (arith, c.if-rows-gt64.false); i_le_most = (omega (arith, f.sum, f.most-M), omega (arith, f.sum, f.most-M), f.most-O) }

pub returns-in-Some : goal.returns-in-Some
returns-in-Some c =
    let entry : RowsEntry =
    let a = c.args in
    record {
      circuit = record {
        counts = a.n;
        tables = seven a.inputs.now a.latches.now a.outputs.now a.gates.now a.resets.now a.bads.now a.constraints.now;
        scratch = a.scratch.now;
      };
      rows = a.rows;
      nexts = a.nexts.now;
      inputs = a.ins.now;
      outputs = a.outs.now;
    } in
    let told : c.judge_in_order.result ≡ Ok tt =
    c.in_ok-judge_in_order.was in
    let says : c.judge_in_order.result ≡ (check_in_order (entry).circuit).answer =
    c.judge_in_order.ensures.value in
    let same : length c.judge_in_order.new.scratch ≡ length c.args.scratch.now =
    c.judge_in_order.auto.scratch in
    let e = entry in
    let zero = c.clear-in-Some.ensures ∙ ap (λ (k : ℕ). replicate k 0) (same) in
    refused-late e _ zero (past-check e.circuit (row_stage e) (says) (told)) _
    (few-bad e _ (omega (arith, c.if-rows-gt64.false))
    (sym c.bad_rows.ensures ∙ c.in-Some.is))

pub step_lists-requires : goal.step_lists-requires
step_lists-requires c =
    let entry : RowsEntry =
    let a = c.args in
    record {
      circuit = record {
        counts = a.n;
        tables = seven a.inputs.now a.latches.now a.outputs.now a.gates.now a.resets.now a.bads.now a.constraints.now;
        scratch = a.scratch.now;
      };
      rows = a.rows;
      nexts = a.nexts.now;
      inputs = a.ins.now;
      outputs = a.outs.now;
    } in
    let told : c.judge_in_order.result ≡ Ok tt =
    c.in_ok-judge_in_order.was in
    let says : c.judge_in_order.result ≡ (check_in_order (entry).circuit).answer =
    c.judge_in_order.ensures.value in
    let same : length c.judge_in_order.new.scratch ≡ length c.args.scratch.now =
    c.judge_in_order.auto.scratch in
    let e = entry in
    record {
      room = record {
        others = e.circuit.tables;
        runs = runs e.circuit (row_stage e) (says) (told);
        scratch-long = (room e.circuit (row_stage e) (says) (told) c.judge_in_order.new.scratch (same)).scratch-long;
      };
      lists = good-lists e (omega (arith, c.if-rows-gt64.false))
          (sym c.bad_rows.ensures ∙ c.in_default.is);
    }

pub returns-in_err-judge_in_order : goal.returns-in_err-judge_in_order
returns-in_err-judge_in_order c =
    let entry : RowsEntry =
    let a = c.args in
    record {
      circuit = record {
        counts = a.n;
        tables = seven a.inputs.now a.latches.now a.outputs.now a.gates.now a.resets.now a.bads.now a.constraints.now;
        scratch = a.scratch.now;
      };
      rows = a.rows;
      nexts = a.nexts.now;
      inputs = a.ins.now;
      outputs = a.outs.now;
    } in
    let e = entry in
    let refused = c.in_err-judge_in_order.was in
    rw (passed-on _ c.from_residual.ensures.1) (
    refused-rows e _ (c.judge_in_order.ensures.scratch_after _ refused) _
    (refused-by e.circuit (row_stage e) c.judge_in_order.ensures.value _ refused))

pub returns : goal.returns
returns c =
    let entry : RowsEntry =
    let a = c.args in
    record {
      circuit = record {
        counts = a.n;
        tables = seven a.inputs.now a.latches.now a.outputs.now a.gates.now a.resets.now a.bads.now a.constraints.now;
        scratch = a.scratch.now;
      };
      rows = a.rows;
      nexts = a.nexts.now;
      inputs = a.ins.now;
      outputs = a.outs.now;
    } in
    let told : c.judge_in_order.result ≡ Ok tt =
    c.in_ok-judge_in_order.was in
    let says : c.judge_in_order.result ≡ (check_in_order (entry).circuit).answer =
    c.judge_in_order.ensures.value in
    let same : length c.judge_in_order.new.scratch ≡ length c.args.scratch.now =
    c.judge_in_order.auto.scratch in
    let e = entry in
    let zero = c.clear-2.ensures ∙ ap (λ (k : ℕ). replicate k 0) (c.step_lists.auto.scratch ∙ same) in
    done-rows e _ zero (past-check e.circuit (row_stage e) (says) (told))
    (few-good e (omega (
      arith,
      c.if-rows-gt64.false,
    )) (sym c.bad_rows.ensures ∙ c.in_default.is)) _ _
    (c.step_lists.ensures e.circuit.tables (runs e.circuit (row_stage e) (says) (told)))
