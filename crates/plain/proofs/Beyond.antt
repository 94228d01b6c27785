-- What the check of given tables tells where 24 and one stage more come after 15: the refusal that is answered, or what that stage says.
use Prim.Native.Nat.{◌≤◌, ◌<◌}
use mathlib.Core.Path.{◌≡◌, refl, ap, ◌∙◌}
use mathlib.Core.Bool.{Bool}
use mathlib.Core.List.{List, [], ◌∷◌, ◌++◌}
use Rattle.std.specs.Prelude.{Result, Ok, Err, Option, Some, None}
use borrow.Author.Tests.{le-leb, lt-leb}
use Rattle.plan.specs.declared.Refusal.{Refusal}
use Rattle.plan.specs.declared.Refusal.TheVariants.{ManyGates}
use Rattle.plan.specs.Refusals.{stage, first_of}
use Rattle.plan.specs.Given.{Given, lent_alone, failing_at, stages, order_stage}
use Rattle.plan.specs.Outcome.{check_in_order}
use Rattle.step.proofs.Beyond as beyond
use Rattle.step.proofs.Checks.{answer}
use Rattle.plan.specs.Plain.{gates_stage}

-- 24 is given exactly where there are more gates
pub gates-few : (g : Given) → g.counts.A ≤ 24 → gates_stage g ≡ None
gates-few g h = ap (λ (b : Bool). stage ManyGates (failing_at g.counts.A b)) (le-leb g.counts.A 24 h)

pub gates-many : (g : Given) → 24 < g.counts.A → gates_stage g ≡ Some (ManyGates g.counts.A)
gates-many g h = ap (λ (b : Bool). stage ManyGates (failing_at g.counts.A b)) (lt-leb g.counts.A 24 h)

-- a stage that finds nothing is as good as none
skip : (os : List (Option Refusal)) (o l : Option Refusal) → first_of (os ++ (o ∷ None ∷ l ∷ [])) ≡ first_of (os ++ (o ∷ l ∷ []))
skip [] None l = refl
skip [] (Some r) l = refl
skip (None ∷ os) o l = skip os o l
skip (Some r ∷ os) o l = refl

module _ (g : Given) (last : Option Refusal) where
  abbrev pub plain_answer : Option Refusal
  plain_answer = beyond.answer g (gates_stage g ∷ last ∷ [])

  -- with few gates it is the answer without 24
  pub answer-few : g.counts.A ≤ 24 → plain_answer ≡ answer g last
  answer-few h =
      ap (λ (o : Option Refusal). beyond.answer g (o ∷ last ∷ [])) (gates-few g h)
      ∙ skip (stages g (lent_alone g)) (order_stage g) last

  module _ {a : Result Unit Refusal} (told : a ≡ (check_in_order g).answer) where
    pub refused-tables : (r : Refusal) → a ≡ Err r → plain_answer ≡ Some r
    refused-tables = beyond.refused-by g (gates_stage g ∷ last ∷ []) told

    pub refused-gates : a ≡ Ok tt → 24 < g.counts.A → plain_answer ≡ Some (ManyGates g.counts.A)
    refused-gates q h =
        beyond.past-check g (gates_stage g ∷ last ∷ []) told q ∙ ap (λ (o : Option Refusal). first_of (o ∷ last ∷ [])) (gates-many g h)
