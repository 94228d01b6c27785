-- The outcome of the witness question, from what was told on the way.
use Prim.Native.Nat.{ℕ, ◌*◌}
use mathlib.Core.Path.{◌≡◌, refl, sym, ap, ap₂, ◌∙◌}
use mathlib.Core.Bool.{Bool, true, false}
use mathlib.Core.List.{List, [], ◌∷◌}
use Rattle.std.specs.Prelude.{Result, Ok, Err, Option, Some, None}
use borrow.Author.Tests.{eqb-true}
use lib.Dec.{eqb}
use lib.ListN.{length}
use Rattle.plan.specs.declared.Refusal.{Refusal}
use Rattle.plan.specs.declared.Refusal.TheVariants.{BadVector}
use Rattle.plan.specs.Refusals.{stage, first_of}
use Rattle.plan.specs.Circuit.{cleared}
use Rattle.plan.specs.Step.{witnessed}
use Rattle.plan.specs.Given.{given_circuit, failing_at}
use Rattle.plan.specs.Outcome.{WitnessEntry, WitnessExit, all_codes, list_stage, verdict_by, witness3}
use Rattle.laws.proofs.Reading.Common.{and_left}
use Rattle.step.proofs.codes.Places.{codes_in}
use Rattle.step.proofs.Checks.{answer}

not-refused : (b : Bool) → Ok b ≡ verdict_by None b
not-refused true = refl
not-refused false = refl

module _ (e : WitnessEntry) where
  abbrev whole : Bool
  whole = codes_in e.bytes (e.number * e.circuit.counts.I)

  abbrev seen : Bool
  seen = witnessed (given_circuit e.circuit) e.number e.bytes

  pub good-list : whole ≡ true → length e.bytes ≡ e.number * e.circuit.counts.I
  good-list q = eqb-true _ _ (and_left (eqb (length e.bytes) (e.number * e.circuit.counts.I)) (all_codes e.bytes) q)

  module _ (t : List ℕ) (blank : t ≡ cleared e.circuit.scratch) where
    decided : (v : Result Bool Refusal) → v ≡ verdict_by (answer e.circuit (list_stage e)) seen
        → ◌≡◌ {A = WitnessExit} (record { answer = v; scratch = t }) (witness3 e)
    decided v q = λ j. record { answer = q j; scratch = blank j }

    pub refused-witness : (r : Refusal) → answer e.circuit (list_stage e) ≡ Some r
        → ◌≡◌ {A = WitnessExit} (record { answer = Err r; scratch = t }) (witness3 e)
    refused-witness r q = decided (Err r) (sym (ap (λ (o : Option Refusal). verdict_by o seen) q))

    -- the tables are good
    module _ (past : answer e.circuit (list_stage e) ≡ first_of (list_stage e ∷ [])) where
      judged : (b : Bool) → whole ≡ b → answer e.circuit (list_stage e) ≡ first_of (stage BadVector (failing_at 2 b) ∷ [])
      judged b q = past ∙ ap (λ (x : Bool). first_of (stage BadVector (failing_at 2 x) ∷ [])) q

      pub refused-list : whole ≡ false → ◌≡◌ {A = WitnessExit} (record { answer = Err (BadVector 2); scratch = t }) (witness3 e)
      refused-list q = refused-witness (BadVector 2) (judged false q)

      pub asked-witness : whole ≡ true → (b : Bool) → b ≡ seen → ◌≡◌ {A = WitnessExit} (record { answer = Ok b; scratch = t }) (witness3 e)
      asked-witness q b s = decided (Ok b) (not-refused b ∙ ap₂ verdict_by (sym (judged true q)) s)
