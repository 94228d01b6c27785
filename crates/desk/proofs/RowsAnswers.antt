-- The answers of the calls on many rows, as C sees them.
use Prim.Native.Nat.{ℕ}
use mathlib.Core.Path.{◌≡◌, ap, ◌∙◌}
use mathlib.Core.List.{List}
use Rattle.plan.specs.declared.Counts.{Counts}
use Rattle.plan.specs.Given.{Given}
use Rattle.plan.specs.Outcome.{stepped_values}
use Rattle.plan.specs.Rows.{RowsExit, RowReportExit}
use Rattle.plan.specs.Rows as outcome
use Rattle.desk.specs.RowsTold.{RowsTold, told_rows, step_rows, RowReportTold, told_report, report_rows}
use Rattle.desk.proofs.Answers.{counted}

pub rows_told : (g : Given) (rows : ℕ) (nexts ins outs : List ℕ) (n : Counts) (x : RowsExit) (answer : List ℕ) → n ≡ g.counts
    → x ≡ outcome.step_rows (record { circuit = counted g n; rows = rows; nexts = nexts; inputs = ins; outputs = outs })
    → answer ≡ stepped_values x.answer
    → ◌≡◌ {A = RowsTold} (record { answer = answer; scratch = x.scratch; nexts = x.nexts; outputs = x.outputs })
    (step_rows (record { circuit = g; rows = rows; nexts = nexts; inputs = ins; outputs = outs }))
rows_told g rows nexts ins outs n x answer e says told =
    ap (λ (a : List ℕ). record { answer = a; scratch = x.scratch; nexts = x.nexts; outputs = x.outputs }) told
    ∙ (ap told_rows says
    ∙ ap (λ (m : Counts). step_rows (record { circuit = counted g m; rows = rows; nexts = nexts; inputs = ins; outputs = outs })) e)

pub report-told : (g : Given) (rows : ℕ) (ins report : List ℕ) (n : Counts) (x : RowReportExit) (answer : List ℕ) → n ≡ g.counts
    → x ≡ outcome.report_rows (record { circuit = counted g n; rows = rows; inputs = ins; report = report })
    → answer ≡ stepped_values x.answer
    → ◌≡◌ {A = RowReportTold} (record { answer = answer; scratch = x.scratch; report = x.report })
    (report_rows (record { circuit = g; rows = rows; inputs = ins; report = report }))
report-told g rows ins report n x answer e says told =
    ap (λ (a : List ℕ). record { answer = a; scratch = x.scratch; report = x.report }) told
    ∙ (ap told_report says
    ∙ ap (λ (m : Counts). report_rows (record { circuit = counted g m; rows = rows; inputs = ins; report = report })) e)
