-- Table 6 is zero after a refusal and past its numbers; after either it is as long as it came.
use Prim.Native.Nat.{ℕ, ◌+◌, ◌-◌, ◌*◌, ◌≤◌}
use mathlib.Core.Path.{◌≡◌, refl, ap, ◌∙◌}
use mathlib.Core.List.{List, ◌++◌}
use Rattle.std.specs.Prelude.{Ok, Err, Option, Some, None}
use native.Mathlib.Omega.{arith}
use lib.ListN.{length, get_or, replicate, length-append}
use lib.Seq.{get_or-append-add}
use Rattle.plan.specs.declared.Refusal.{Refusal}
use Rattle.plan.specs.Refusals.{first_of}
use Rattle.plan.specs.Circuit.{Circuit, cleared}
use Rattle.plan.specs.Given.{given_circuit}
use Rattle.plan.specs.Step.{Step, run, first_state, vectors_of}
use Rattle.laws.proofs.Marks.{zeros}
use Rattle.plan.specs.Report.{numbers_of, output_along, latch_along, in_turn, needles, ReportEntry, report_stages, reported_by, report}
use Rattle.report.proofs.needles.Rows.{turn-length}

-- whatever is refused, every word is zero
pub refused-zero : (e : ReportEntry) (r : Refusal) → (report e).answer ≡ Err r → (report e).six ≡ cleared e.six
refused-zero e r = go (first_of (report_stages e))
  where
    go : (o : Option Refusal) → (reported_by o e).answer ≡ Err r → (reported_by o e).six ≡ cleared e.six
    go None q = let z : ◌≡◌ {A = ℕ} 0 1 = cc in absurd (omega arith)
    go (Some s) q = refl

pub needles-length : (c : Circuit) (steps : List Step) → length (needles c steps) ≡ 4 * (length c.outputs + length c.latches)
needles-length c steps =
    length-append (in_turn (λ i. numbers_of (output_along steps i)) (length c.outputs)) (in_turn (λ i. numbers_of (latch_along steps i)) (length c.latches))
    ∙ omega (
      arith,
      turn-length (λ i. numbers_of (output_along steps i)) (λ i. refl) (length c.outputs),
      turn-length (λ i. numbers_of (latch_along steps i)) (λ i. refl) (length c.latches),
    )

-- past words that fill a table it is zero
past : (words : List ℕ) (n k : ℕ) → length words ≤ k → get_or (words ++ replicate n 0) k 0 ≡ 0
past words n k h =
    let at : k ≡ length words + (k - length words) = omega arith in
    ap (λ (j : ℕ). get_or (words ++ replicate n 0) j 0) at
    ∙ (get_or-append-add words (replicate n 0) (k - length words) 0 ∙ zeros n (k - length words))

-- where nothing is refused, every word past four for each output and each latch is zero
pub past-zero : (e : ReportEntry) → (report e).answer ≡ Ok tt → (i : ℕ)
    → 4 * (length (given_circuit e.circuit).outputs + length (given_circuit e.circuit).latches) ≤ i → get_or (report e).six i 0 ≡ 0
past-zero e done i h = go (first_of (report_stages e)) done
  where
    go : (o : Option Refusal) → (reported_by o e).answer ≡ Ok tt → get_or (reported_by o e).six i 0 ≡ 0
    go None q =
        let c = given_circuit e.circuit in
        let steps = run c (first_state c) (vectors_of c e.number e.bytes) in
        past (needles c steps) (length e.six - length (needles c steps)) i (omega (arith, needles-length c steps))
    go (Some s) q = let z : ◌≡◌ {A = ℕ} 0 1 = cc in absurd (omega arith)
