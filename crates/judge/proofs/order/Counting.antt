-- How many gates have a number: one more with each that is given; all, exactly if there are as many as gates.
use Prim.Native.Nat.{ℕ, zero, suc, ◌+◌, ◌<◌, ◌≤◌}
use mathlib.Core.Path.{◌≡◌, refl, sym, ap, ap₂, ◌∙◌}
use mathlib.Core.Bool.{Bool, true, false, cond}
use mathlib.Core.List.{List}
use native.Mathlib.Nat.{not-suc-le-zero}
use native.Mathlib.Omega.{arith}
use borrow.Author.Tests.{eqb-true, eqb-false}
use lib.Dec.{eqb}
use Rattle.judge.specs.order.Waiting.{numbered_v, lhs_of, counted}

pub counted_same : (gates t u : List ℕ) (a : ℕ) → ((i : ℕ) → i < a → numbered_v u (lhs_of gates i) ≡ numbered_v t (lhs_of gates i))
    → counted gates u a ≡ counted gates t a
counted_same gates t u zero f = refl
counted_same gates t u (suc a) f =
    ap₂ (λ (x : ℕ) (b : Bool). x + cond b 1 0) (counted_same gates t u a (λ i h. f i (omega arith))) (f a (omega arith))

module _ (gates t : List ℕ) where
  pub counted_none : (a : ℕ) → ((i : ℕ) → i < a → numbered_v t (lhs_of gates i) ≡ false) → counted gates t a ≡ 0
  counted_none zero f = refl
  counted_none (suc a) f =
      ap₂ (λ (x : ℕ) (b : Bool). x + cond b 1 0) (counted_none a (λ i h. f i (omega arith))) (f a (omega arith))

  at_most : (a : ℕ) → counted gates t a ≤ a
  at_most zero = omega arith
  at_most (suc a) = go (numbered_v t (lhs_of gates a)) (at_most a)
    where
      go : (b : Bool) → counted gates t a ≤ a → counted gates t a + cond b 1 0 ≤ suc a
      go true h = omega arith
      go false h = omega arith

  pub counted-all : (a : ℕ) → ((i : ℕ) → i < a → numbered_v t (lhs_of gates i) ≡ true) → counted gates t a ≡ a
  counted-all zero f = refl
  counted-all (suc a) f =
      ap₂ (λ (x : ℕ) (b : Bool). x + cond b 1 0) (counted-all a (λ i h. f i (omega arith))) (f a (omega arith)) ∙ omega arith

  pub counted-full : (a : ℕ) → counted gates t a ≡ a → (i : ℕ) → i < a → numbered_v t (lhs_of gates i) ≡ true
  counted-full zero e i h = absurd (not-suc-le-zero h)
  counted-full (suc a) e i h = go (numbered_v t (lhs_of gates a)) refl e (λ q. counted-full a q i)
    where
      go : (b : Bool) → numbered_v t (lhs_of gates a) ≡ b → counted gates t a + cond b 1 0 ≡ suc a
          → (counted gates t a ≡ a → i < a → numbered_v t (lhs_of gates i) ≡ true) → numbered_v t (lhs_of gates i) ≡ true
      go false z w f = absurd (omega (arith, w, at_most a))
      go true z w f = last (eqb i a) refl
        where
          last : (b : Bool) → eqb i a ≡ b → numbered_v t (lhs_of gates i) ≡ true
          last true y = ap (λ (x : ℕ). numbered_v t (lhs_of gates x)) (eqb-true i a y) ∙ z
          last false y = f (omega (arith, w)) (omega (arith, eqb-false i a y))

-- gate j, which had none, has a number, and the others are as they were
pub counted-more : (gates t u : List ℕ) (a j : ℕ) → j < a → numbered_v t (lhs_of gates j) ≡ false → numbered_v u (lhs_of gates j) ≡ true
    → ((i : ℕ) → i < a → (i ≡ j → ⊥) → numbered_v u (lhs_of gates i) ≡ numbered_v t (lhs_of gates i))
    → counted gates u a ≡ counted gates t a + 1
counted-more gates t u zero j h was is f = absurd (not-suc-le-zero h)
counted-more gates t u (suc a) j h was is f = go (eqb j a) refl (λ q. counted-more gates t u a j q was is (λ i k. f i (omega arith)))
  where
    go : (b : Bool) → eqb j a ≡ b → (j < a → counted gates u a ≡ counted gates t a + 1)
        → counted gates u (suc a) ≡ counted gates t (suc a) + 1
    go true e ih =
        let z = eqb-true j a e in
        ap₂ (λ (x : ℕ) (b : Bool). x + cond b 1 0) (counted_same gates t u a (λ i k. f i (omega arith) (λ y. omega (arith, y, z))))
        (ap (λ (x : ℕ). numbered_v u (lhs_of gates x)) (sym z) ∙ is)
        ∙ sym (ap (λ (b : Bool). counted gates t a + cond b 1 0 + 1) (ap (λ (x : ℕ). numbered_v t (lhs_of gates x)) (sym z) ∙ was) ∙ omega arith)
    go false e ih =
        let n = eqb-false j a e in
        ap₂ (λ (x : ℕ) (b : Bool). x + cond b 1 0) (ih (omega (arith, n))) (f a (omega arith) (λ y. n (sym y)))
        ∙ carry (counted gates t a) (cond (numbered_v t (lhs_of gates a)) 1 0)
      where
        carry : (x y : ℕ) → x + 1 + y ≡ x + y + 1
        carry x y = omega arith
