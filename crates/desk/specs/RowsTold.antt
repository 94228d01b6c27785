-- What C sees of the calls on many rows: the answer as numbers, and the exit contents of all that is lent.
use Rattle.std.specs.Prelude.{ℕ, List}
use Rattle.plan.specs.Outcome.{stepped_values}
use Rattle.plan.specs.Rows.{RowsEntry, RowsExit, RowReportEntry, RowReportExit}
use Rattle.plan.specs.Rows as rows

pub record RowsTold : Type 0 where
  pub answer : List ℕ
  pub scratch : List ℕ
  pub nexts : List ℕ
  pub outputs : List ℕ

abbrev pub told_rows : RowsExit → RowsTold
told_rows x = record { answer = stepped_values x.answer; scratch = x.scratch; nexts = x.nexts; outputs = x.outputs }

abbrev pub step_rows : RowsEntry → RowsTold
step_rows e = told_rows (rows.step_rows e)

pub record RowReportTold : Type 0 where
  pub answer : List ℕ
  pub scratch : List ℕ
  pub report : List ℕ

abbrev pub told_report : RowReportExit → RowReportTold
told_report x = record { answer = stepped_values x.answer; scratch = x.scratch; report = x.report }

abbrev pub report_rows : RowReportEntry → RowReportTold
report_rows e = told_report (rows.report_rows e)
