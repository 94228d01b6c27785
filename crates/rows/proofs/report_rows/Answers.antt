-- The row report, into table 6: three numbers for each output, which add up to the rows. The answers are given by `refused-report`, `late` and
-- `past-six`.
use Prim.Native.Nat.{ℕ, ◌*◌, ◌/◌}
use mathlib.Core.Path.{◌≡◌, sym, ap, ◌∙◌}
use mathlib.Core.Bool.{Bool}
use mathlib.Core.List.{[], ◌∷◌}
use Rattle.std.specs.Prelude.{None}
use native.Mathlib.Omega.{arith}
use borrow.Author.Tests.{not-true, not-false}
use lib.Dec.{ltb}
use lib.ListN.{length, replicate}
use Rattle.plan.specs.Refusals.{first_of}
use Rattle.plan.specs.Circuit.{seven}
use Rattle.plan.specs.Rows.{RowReportEntry, row_report_stage}
use Rattle.rows.proofs.Reports.{reply, third, many, wrong, right, refused-six, past-six, runs, reports, refused-report, done-report, late}
use Rattle.rows.proofs.report_rows.Goals as goal

pub returns-then-rows-gt64 : goal.returns-then-rows-gt64
returns-then-rows-gt64 c =
    let entry : RowReportEntry =
    let a = c.args in
    record {
      circuit = record {
        counts = a.n;
        tables = seven a.inputs.now a.latches.now a.outputs.now a.gates.now a.resets.now a.bads.now a.constraints.now;
        scratch = a.scratch.now;
      };
      rows = a.rows;
      inputs = a.ins.now;
      report = a.report.now;
    } in
    let short : Bool =
    ltb (length c.args.report.now / 3) c.args.n.O in
    let is-short : short ≡ ltb (length c.args.report.now) (3 * c.args.n.O) =
    third (length c.args.report.now) c.args.n.O in
    let same : length c.judge_in_order-answer.new.scratch ≡ length c.args.scratch.now =
    c.judge_in_order-answer.auto.scratch in
    let past : let e = entry in reply e ≡ first_of (row_report_stage e ∷ []) =
    past-six (entry) _ _ (short) c.judge_in_order-answer.ensures.value (is-short) c.with_sixth.ensures
    c.in_default.is in
    let e = entry in
    refused-report e _ (c.refuse-then-rows-gt64.ensures.1 ∙ ap (λ (k : ℕ). replicate k 0) (same)) _ _ _ c.refuse-then-rows-gt64.ensures.0 c.refuse-then-rows-gt64.ensures.2
    (late e (past) _ (many e c.if-rows-gt64.true))

pub whole_rows-requires : goal.whole_rows-requires
whole_rows-requires c =
    let entry : RowReportEntry =
    let a = c.args in
    record {
      circuit = record {
        counts = a.n;
        tables = seven a.inputs.now a.latches.now a.outputs.now a.gates.now a.resets.now a.bads.now a.constraints.now;
        scratch = a.scratch.now;
      };
      rows = a.rows;
      inputs = a.ins.now;
      report = a.report.now;
    } in
    let short : Bool =
    ltb (length c.args.report.now / 3) c.args.n.O in
    let is-short : short ≡ ltb (length c.args.report.now) (3 * c.args.n.O) =
    third (length c.args.report.now) c.args.n.O in
    let good = runs (entry) _ _ (short) c.judge_in_order-answer.ensures.value (is-short) c.with_sixth.ensures
    c.in_default.is in
    record { rows_bound = omega (arith, c.if-rows-gt64.false); each_le_most = omega (arith, good.fits.sum, good.fits.most-M) }

pub returns-then-not-whole_rows : goal.returns-then-not-whole_rows
returns-then-not-whole_rows c =
    let entry : RowReportEntry =
    let a = c.args in
    record {
      circuit = record {
        counts = a.n;
        tables = seven a.inputs.now a.latches.now a.outputs.now a.gates.now a.resets.now a.bads.now a.constraints.now;
        scratch = a.scratch.now;
      };
      rows = a.rows;
      inputs = a.ins.now;
      report = a.report.now;
    } in
    let short : Bool =
    ltb (length c.args.report.now / 3) c.args.n.O in
    let is-short : short ≡ ltb (length c.args.report.now) (3 * c.args.n.O) =
    third (length c.args.report.now) c.args.n.O in
    let same : length c.judge_in_order-answer.new.scratch ≡ length c.args.scratch.now =
    c.judge_in_order-answer.auto.scratch in
    let past : let e = entry in reply e ≡ first_of (row_report_stage e ∷ []) =
    past-six (entry) _ _ (short) c.judge_in_order-answer.ensures.value (is-short) c.with_sixth.ensures
    c.in_default.is in
    let e = entry in
    refused-report e _ (c.refuse-then-not-whole_rows.ensures.1 ∙ ap (λ (k : ℕ). replicate k 0) (same)) _ _ _ c.refuse-then-not-whole_rows.ensures.0 c.refuse-then-not-whole_rows.ensures.2
    (late e (past) _ (wrong e (omega (arith, c.if-rows-gt64.false)) (sym c.whole_rows.ensures ∙ not-true _ c.if-not-whole_rows.true-raw)))

pub report_lists-requires : goal.report_lists-requires
report_lists-requires c =
    let entry : RowReportEntry =
    let a = c.args in
    record {
      circuit = record {
        counts = a.n;
        tables = seven a.inputs.now a.latches.now a.outputs.now a.gates.now a.resets.now a.bads.now a.constraints.now;
        scratch = a.scratch.now;
      };
      rows = a.rows;
      inputs = a.ins.now;
      report = a.report.now;
    } in
    let short : Bool =
    ltb (length c.args.report.now / 3) c.args.n.O in
    let is-short : short ≡ ltb (length c.args.report.now) (3 * c.args.n.O) =
    third (length c.args.report.now) c.args.n.O in
    let same : length c.judge_in_order-answer.new.scratch ≡ length c.args.scratch.now =
    c.judge_in_order-answer.auto.scratch in
    reports (entry) _ _ (short) c.judge_in_order-answer.ensures.value (is-short) c.with_sixth.ensures
    c.in_default.is
    _ (same) (omega (arith, c.if-rows-gt64.false)) (sym c.whole_rows.ensures ∙ not-false _ c.if-not-whole_rows.false-raw)

pub returns-in-Err : goal.returns-in-Err
returns-in-Err c =
    let entry : RowReportEntry =
    let a = c.args in
    record {
      circuit = record {
        counts = a.n;
        tables = seven a.inputs.now a.latches.now a.outputs.now a.gates.now a.resets.now a.bads.now a.constraints.now;
        scratch = a.scratch.now;
      };
      rows = a.rows;
      inputs = a.ins.now;
      report = a.report.now;
    } in
    let short : Bool =
    ltb (length c.args.report.now / 3) c.args.n.O in
    let is-short : short ≡ ltb (length c.args.report.now) (3 * c.args.n.O) =
    third (length c.args.report.now) c.args.n.O in
    let same : length c.judge_in_order-answer.new.scratch ≡ length c.args.scratch.now =
    c.judge_in_order-answer.auto.scratch in
    let e = entry in
    refused-report e _ (c.refuse.ensures.1 ∙ ap (λ (k : ℕ). replicate k 0) (same)) _ _ _ c.refuse.ensures.0 c.refuse.ensures.2
    (refused-six e _ _ (short) c.judge_in_order-answer.ensures.value (is-short) c.with_sixth.ensures _
    c.in-Err.is)

pub returns : goal.returns
returns c =
    let entry : RowReportEntry =
    let a = c.args in
    record {
      circuit = record {
        counts = a.n;
        tables = seven a.inputs.now a.latches.now a.outputs.now a.gates.now a.resets.now a.bads.now a.constraints.now;
        scratch = a.scratch.now;
      };
      rows = a.rows;
      inputs = a.ins.now;
      report = a.report.now;
    } in
    let short : Bool =
    ltb (length c.args.report.now / 3) c.args.n.O in
    let is-short : short ≡ ltb (length c.args.report.now) (3 * c.args.n.O) =
    third (length c.args.report.now) c.args.n.O in
    let same : length c.judge_in_order-answer.new.scratch ≡ length c.args.scratch.now =
    c.judge_in_order-answer.auto.scratch in
    let past : let e = entry in reply e ≡ first_of (row_report_stage e ∷ []) =
    past-six (entry) _ _ (short) c.judge_in_order-answer.ensures.value (is-short) c.with_sixth.ensures
    c.in_default.is in
    let e = entry in
    let good = runs e _ _ (short) c.judge_in_order-answer.ensures.value (is-short) c.with_sixth.ensures c.in_default.is in
    done-report e _ (c.clear.ensures
    ∙ ap (λ (k : ℕ). replicate k 0) (c.report_lists.auto.scratch ∙ same)) _
    (c.report_lists.ensures e.circuit.tables good)
    (late e (past) None (right e (omega (arith, c.if-rows-gt64.false)) (sym c.whole_rows.ensures ∙ not-false _ c.if-not-whole_rows.false-raw)))
