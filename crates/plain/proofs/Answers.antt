-- The plain engine and the stepper have one outcome; what a plain step leaves where it is refused, and the codes it may ask for.
use Prim.Native.Nat.{ℕ, ◌≤◌}
use mathlib.Core.Path.{◌≡◌, refl, sym, ap, ◌∙◌}
use mathlib.Core.Bool.{Bool, true, false}
use mathlib.Core.List.{List}
use Rattle.std.specs.Prelude.{Err, Option, Some, None}
use native.Mathlib.Omega.{arith}
use lib.Dec.{eqb}
use lib.ListN.{length}
use Rattle.plan.specs.declared.Refusal.{Refusal}
use Rattle.plan.specs.Circuit.{cleared}
use Rattle.plan.specs.Outcome.{StepEntry, StepExit, all_codes, step_stage, stepped_by, step}
use Rattle.laws.proofs.Reading.Common.{and_right}
use Rattle.step.proofs.codes.Places.{codes_in, first_bad}
use Rattle.plan.specs.Plain.{plain_step}
use Rattle.plain.proofs.Beyond.{plain_answer, answer-few}

-- For every circuit of at most 24 gates, every state and input, the plain engine gives the stepper's outputs, next state and answer, refusals
-- too: no call can tell the two apart.
pub same-engine : (e : StepEntry) → e.circuit.counts.A ≤ 24 → plain_step e ≡ step e
same-engine e h = ap (λ (o : Option Refusal). stepped_by o e) (answer-few e.circuit (step_stage e) h)

-- what is left where it is refused
pub refused-plain : (e : StepEntry) (t : List ℕ) → t ≡ cleared e.circuit.scratch → (r : Refusal)
    → plain_answer e.circuit (step_stage e) ≡ Some r
    → ◌≡◌ {A = StepExit} (record { answer = Err r; scratch = t; state = e.state; outputs = e.outputs }) (plain_step e)
refused-plain e t blank r q =
    (λ j. record { answer = Err r; scratch = blank j; state = e.state; outputs = e.outputs })
    ∙ sym (ap (λ (o : Option Refusal). stepped_by o e) q)

-- a state and inputs that are not refused are codes
none-bad : (s i o : Bool) → first_bad s i o ≡ None → (s ≡ true) × (i ≡ true)
none-bad true true o e = (refl, refl)
none-bad true false o e = let z : ◌≡◌ {A = ℕ} 0 1 = cc in absurd (omega arith)
none-bad false i o e = let z : ◌≡◌ {A = ℕ} 0 1 = cc in absurd (omega arith)

module _ (e : StepEntry) where
  abbrev bad : Option ℕ
  bad =
      let n = e.circuit.counts in
      first_bad (codes_in e.state n.L) (codes_in e.inputs n.I) (eqb (length e.outputs) n.O)

  pub good-codes : bad ≡ None → (all_codes e.state ≡ true) × (all_codes e.inputs ≡ true)
  good-codes q =
      let n = e.circuit.counts in
      let p = none-bad (codes_in e.state n.L) (codes_in e.inputs n.I) (eqb (length e.outputs) n.O) q in
      (and_right (eqb (length e.state) n.L) (all_codes e.state) p.0, and_right (eqb (length e.inputs) n.I) (all_codes e.inputs) p.1)
