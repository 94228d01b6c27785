-- Checks in a row: what follows a check that finds nothing, and what an accepted row found.
use Prim.Native.Nat.{ℕ}
use mathlib.Core.Path.{◌≡◌, refl, ap}
use Rattle.std.specs.Prelude.{Option, Some, None}
use Rattle.plan.specs.declared.Refusal.{Refusal}
use Rattle.plan.specs.Refusals.{Parse, got, refused, ◌then◌}
use Rattle.plan.specs.Cards.{past}
use Rattle.laws.proofs.Reading.Common.{not-got}

module _ {A : Type 0} (r : ℕ → Refusal) (f : ℕ → ℕ → Parse A) where
  pub past-none : (o : Option ℕ) → o ≡ None → (past o r then f) ≡ f 0 0
  past-none o e = ap (λ (x : Option ℕ). past x r then f) e

  pub past-some : (o : Option ℕ) (place : ℕ) → o ≡ Some place → (past o r then f) ≡ refused (r place)
  past-some o place e = ap (λ (x : Option ℕ). past x r then f) e

  pub past-got : (o : Option ℕ) (a : A) (n : ℕ) → (past o r then f) ≡ got a n → (o ≡ None) × (f 0 0 ≡ got a n)
  past-got None a n e = (refl, e)
  past-got (Some place) a n e = absurd (not-got (r place) a n e)
