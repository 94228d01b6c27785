-- The needle report as C sees it.
use Rattle.std.specs.Prelude.{ℕ, List}
use Rattle.plan.specs.Outcome.{stepped_values}
use Rattle.plan.specs.Report.{ReportEntry}
use Rattle.plan.specs.Report as needles

pub record ReportTold : Type 0 where
  pub answer : List ℕ
  pub scratch : List ℕ
  pub six : List ℕ

abbrev pub report : ReportEntry → ReportTold
report e = let x = needles.report e in record { answer = stepped_values x.answer; scratch = x.scratch; six = x.six }
