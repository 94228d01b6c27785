-- The outcome of the witness question, from what was told on the way.
use Prim.Native.Nat.{ℕ, ◌*◌, ◌≤◌, ◌<◌}
use mathlib.Core.Path.{◌≡◌, refl, sym, ap, ap₂, ◌∙◌}
use mathlib.Core.Bool.{Bool, true, false}
use mathlib.Core.List.{List, [], ◌∷◌}
use Rattle.std.specs.Prelude.{Result, Ok, Err, Option, Some, None}
use native.Mathlib.Omega.{arith}
use Rattle.plan.specs.declared.Refusal.{Refusal}
use Rattle.plan.specs.declared.Refusal.TheVariants.{BadVector, ManyX}
use Rattle.plan.specs.declared.Finding.{Finding}
use Rattle.plan.specs.Refusals.{stage, first_of}
use Rattle.plan.specs.Circuit.{cleared}
use Rattle.plan.specs.Given.{given_circuit, failing_at}
use Rattle.plan.specs.Outcome.{WitnessEntry, list_stage}
use Rattle.step.proofs.codes.Places.{codes_in}
use Rattle.plan.specs.Fillings.{x_count, asked, question, FilledEntry, FilledExit, x_stage, finding_by, witness}
use Rattle.laws.proofs.Fillings.Calls.{x-few, x-many}
use Rattle.step.proofs.Beyond.{answer}

module _ (e : FilledEntry) where
  abbrev w : WitnessEntry
  w = e.list

  abbrev pub more : List (Option Refusal)
  more = list_stage e.list ∷ x_stage e.list ∷ []

  abbrev whole : Bool
  whole = codes_in w.bytes (w.number * w.circuit.counts.I)

  abbrev count : ℕ
  count = x_count (asked (given_circuit w.circuit) w.bytes)

  abbrev found : Finding
  found = question (given_circuit w.circuit) w.number w.bytes e.allowance

  module _ (t : List ℕ) (blank : t ≡ cleared w.circuit.scratch) where
    decided : (f : Result Finding Refusal) → f ≡ finding_by (answer w.circuit more) found
        → ◌≡◌ {A = FilledExit} (record { answer = f; scratch = t }) (witness e)
    decided f q = λ j. record { answer = q j; scratch = blank j }

    pub refused-filled : (r : Refusal) → answer w.circuit more ≡ Some r
        → ◌≡◌ {A = FilledExit} (record { answer = Err r; scratch = t }) (witness e)
    refused-filled r q = decided (Err r) (sym (ap (λ (o : Option Refusal). finding_by o found) q))

    -- the tables are good
    module _ (past : answer w.circuit more ≡ first_of more) where
      judged : (b : Bool) (o : Option Refusal) → whole ≡ b → x_stage w ≡ o
          → answer w.circuit more ≡ first_of (stage BadVector (failing_at 2 b) ∷ o ∷ [])
      judged b o q p = past ∙ ap₂ (λ (x : Bool) (y : Option Refusal). first_of (stage BadVector (failing_at 2 x) ∷ y ∷ [])) q p

      pub refused-list : whole ≡ false → ◌≡◌ {A = FilledExit} (record { answer = Err (BadVector 2); scratch = t }) (witness e)
      refused-list q = refused-filled (BadVector 2) (judged false (x_stage w) q refl)

      pub refused-x : whole ≡ true → (n : ℕ) → n ≡ count → 20 < n
          → ◌≡◌ {A = FilledExit} (record { answer = Err (ManyX n); scratch = t }) (witness e)
      refused-x q n c h =
          refused-filled (ManyX n) (judged true (Some (ManyX n)) q (x-many w (omega (arith, c)) ∙ ap (λ (k : ℕ). Some (ManyX k)) (sym c)))

      pub found-filled : whole ≡ true → count ≤ 20 → (f : Finding) → f ≡ found
          → ◌≡◌ {A = FilledExit} (record { answer = Ok f; scratch = t }) (witness e)
      found-filled q h f p = decided (Ok f) (ap Ok p ∙ sym (ap (λ (o : Option Refusal). finding_by o found) (judged true None q (x-few w h))))
