-- 5, then 15, as answers.
use Prim.Native.Nat.{ℕ}
use mathlib.Core.Path.{◌≡◌, sym, ap₂}
use mathlib.Core.Bool.{Bool, true, false}
use mathlib.Core.List.{[], ◌∷◌}
use Rattle.std.specs.Prelude.{Ok, Err, Option, Some, None}
use Rattle.plan.specs.declared.Refusal.TheVariants.{OutOfRange, NotInOrder}
use Rattle.plan.specs.Refusals.{stage, first_of}
use Rattle.plan.specs.Circuit.{Circuit}
use Rattle.plan.specs.Binary.{binary_order}
use Rattle.plan.specs.Given.{failing, outside_in}
use Rattle.plan.specs.Outcome.{checked_by}
use Rattle.cards.specs.fill.Filled.{judged_by}

module _ (c : Circuit) where
  by_both : (o : Option ℕ) (b : Bool) → outside_in c ≡ o → binary_order c ≡ b
      → checked_by (first_of (judged_by c)) ≡ checked_by (first_of (stage OutOfRange o ∷ stage NotInOrder (failing b) ∷ []))
  by_both o b p q = ap₂ (λ (x : Option ℕ) (y : Bool). checked_by (first_of (stage OutOfRange x ∷ stage NotInOrder (failing y) ∷ []))) p q

  pub at_five : (t : ℕ) → outside_in c ≡ Some t → Err (OutOfRange t) ≡ checked_by (first_of (judged_by c))
  at_five t e = sym (by_both (Some t) (binary_order c) e (λ i. binary_order c))

  pub at-fifteen : outside_in c ≡ None → binary_order c ≡ false → Err (NotInOrder 0) ≡ checked_by (first_of (judged_by c))
  at-fifteen e o = sym (by_both None false e o)

  pub good : outside_in c ≡ None → binary_order c ≡ true → Ok tt ≡ checked_by (first_of (judged_by c))
  good e o = sym (by_both None true e o)
