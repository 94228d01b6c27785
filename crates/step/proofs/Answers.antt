-- The outcome of a step, from what was told on the way.
use Prim.Native.Nat.{ℕ}
use mathlib.Core.Path.{◌≡◌, refl, sym, ap, ◌∙◌}
use mathlib.Core.Bool.{Bool, true, false}
use mathlib.Core.List.{List, [], ◌∷◌}
use Rattle.std.specs.Prelude.{Ok, Err, Option, Some, None}
use native.Mathlib.Omega.{arith}
use borrow.Author.Tests.{eqb-true}
use lib.Dec.{eqb}
use lib.ListN.{length}
use Rattle.plan.specs.declared.Refusal.{Refusal}
use Rattle.plan.specs.declared.Refusal.TheVariants.{BadVector}
use Rattle.plan.specs.Refusals.{stage, first_of}
use Rattle.plan.specs.Circuit.{cleared}
use Rattle.plan.specs.Given.{given_circuit}
use Rattle.plan.specs.Outcome.{StepEntry, StepExit, all_codes, step_stage, stepped_by, step}
use Rattle.laws.proofs.Reading.Common.{and_left}
use Rattle.step.proofs.codes.Places.{codes_in, first_bad}
use Rattle.step.specs.Asked.{Vectors, Leaves}
use Rattle.step.proofs.Checks.{answer}

-- no vector is refused
all-good : (s i o : Bool) → first_bad s i o ≡ None → (s ≡ true) × (i ≡ true) × (o ≡ true)
all-good true true true e = (refl, refl, refl)
all-good true true false e = let z : ◌≡◌ {A = ℕ} 0 1 = cc in absurd (omega arith)
all-good true false o e = let z : ◌≡◌ {A = ℕ} 0 1 = cc in absurd (omega arith)
all-good false i o e = let z : ◌≡◌ {A = ℕ} 0 1 = cc in absurd (omega arith)

module _ (e : StepEntry) where
  abbrev bad : Option ℕ
  bad =
      let n = e.circuit.counts in
      first_bad (codes_in e.state n.L) (codes_in e.inputs n.I) (eqb (length e.outputs) n.O)

  pub good-vectors : bad ≡ None → Vectors e.circuit.counts e.state e.inputs e.outputs
  good-vectors q =
      let n = e.circuit.counts in
      let p = all-good (codes_in e.state n.L) (codes_in e.inputs n.I) (eqb (length e.outputs) n.O) q in
      record {
        state-length = eqb-true _ _ (and_left (eqb (length e.state) n.L) (all_codes e.state) p.0);
        inputs-length = eqb-true _ _ (and_left (eqb (length e.inputs) n.I) (all_codes e.inputs) p.1);
        outputs-length = eqb-true _ _ p.2;
      }

  module _ (t : List ℕ) (blank : t ≡ cleared e.circuit.scratch) where
    pub refused-step : (r : Refusal) → answer e.circuit (step_stage e) ≡ Some r
        → ◌≡◌ {A = StepExit} (record { answer = Err r; scratch = t; state = e.state; outputs = e.outputs }) (step e)
    refused-step r q =
        (λ j. record { answer = Err r; scratch = blank j; state = e.state; outputs = e.outputs })
        ∙ sym (ap (λ (o : Option Refusal). stepped_by o e) q)

    -- the tables are good
    module _ (past : answer e.circuit (step_stage e) ≡ first_of (step_stage e ∷ [])) where
      pub refused-vector : (k : ℕ) → bad ≡ Some k
          → ◌≡◌ {A = StepExit} (record { answer = Err (BadVector k); scratch = t; state = e.state; outputs = e.outputs }) (step e)
      refused-vector k q = refused-step (BadVector k) (past ∙ ap (λ (o : Option ℕ). first_of (stage BadVector o ∷ [])) q)

      pub done-step : bad ≡ None → (state' outs' : List ℕ) → Leaves (given_circuit e.circuit) e.state e.inputs state' outs'
          → ◌≡◌ {A = StepExit} (record { answer = Ok tt; scratch = t; state = state'; outputs = outs' }) (step e)
      done-step q state' outs' l =
          (λ j. record { answer = Ok tt; scratch = blank j; state = l.next j; outputs = l.outputs j })
          ∙ sym (ap (λ (o : Option Refusal). stepped_by o e) (past ∙ ap (λ (o : Option ℕ). first_of (stage BadVector o ∷ [])) q))
