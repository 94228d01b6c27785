-- The answer of a needle report, as C sees it.
use Prim.Native.Nat.{ℕ}
use mathlib.Core.Path.{◌≡◌, ap, ◌∙◌}
use mathlib.Core.List.{List}
use Rattle.plan.specs.declared.Counts.{Counts}
use Rattle.plan.specs.Given.{Given}
use Rattle.plan.specs.Outcome.{stepped_values}
use Rattle.plan.specs.Report.{ReportExit}
use Rattle.plan.specs.Report as needles
use Rattle.desk.specs.Reported.{ReportTold, report}
use Rattle.desk.proofs.Answers.{counted}

pub report-told : (g : Given) (number : ℕ) (bytes six : List ℕ) (n : Counts) (x : ReportExit) (answer : List ℕ) → n ≡ g.counts
    → x ≡ needles.report (record { circuit = counted g n; number = number; bytes = bytes; six = six }) → answer ≡ stepped_values x.answer
    → ◌≡◌ {A = ReportTold} (record { answer = answer; scratch = x.scratch; six = x.six })
    (report (record { circuit = g; number = number; bytes = bytes; six = six }))
report-told g number bytes six n x answer e says told =
    ap (λ (a : List ℕ). record { answer = a; scratch = x.scratch; six = x.six }) told
    ∙ (ap (λ (y : ReportExit). record { answer = stepped_values y.answer; scratch = y.scratch; six = y.six }) says
    ∙ ap (λ (m : Counts). report (record { circuit = counted g m; number = number; bytes = bytes; six = six })) e)
