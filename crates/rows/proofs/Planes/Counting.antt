-- Counting the rows that have a value: the ones of a plane, spare lanes masked off.
use Prim.Native.Nat.{ℕ, zero, suc, ◌+◌, ◌-◌, ◌^◌, ◌<◌}
use mathlib.Core.Path.{◌≡◌, refl, sym, ap, ap₂, ◌∙◌}
use mathlib.Core.Bool.{cond}
use mathlib.Core.List.{List, [], ◌∷◌}
use native.Mathlib.Omega.{arith}
use lib.Bits.{bit_and, bit_xor, and_mask}
use lib.Count.{ones}
use Rattle.plan.specs.Step.{Value, v0, v1, vx, same}
use Rattle.step.specs.values.Words.{may0, may1}
use Rattle.rows.specs.Planes.Planes.{bit}
use Rattle.rows.proofs.Planes.Bits.{bit-small, bit-and, bit-xor, plane-self, sum, ones-plane}

-- a value counts as one where it is a
abbrev pub one-if : Value → Value → ℕ
one-if a b = cond (same b a) 1 0

-- a plane masked to n lanes has as many ones as these lanes have bits: spare lanes count nothing
pub ones-masked : (p n : ℕ) → ones (bit_and p (2 ^ n - 1)) ≡ sum (λ k. bit k p) n
ones-masked p n =
    ap ones (and_mask p n ∙ sym (plane-self p n)) ∙ ones-plane (λ k. bit k p) (λ k. bit-small k p) n

sum_same : (f g : ℕ → ℕ) (n : ℕ) → ((k : ℕ) → k < n → f k ≡ g k) → sum f n ≡ sum g n
sum_same f g zero h = refl
sum_same f g (suc n) h = ap₂ (λ (x y : ℕ). x + y) (h n (omega arith)) (sum_same f g n (λ k p. h k (omega arith)))

-- p: where it may be 1; q: where it may be 0
module _ (p q n : ℕ) (x : ℕ → Value) (h : (k : ℕ) → k < n → (bit k p ≡ may1 (x k)) × (bit k q ≡ may0 (x k))) where
  at_x : (a : Value) → bit_and (may1 a) (may0 a) ≡ one-if vx a
  at_x v0 = refl
  at_x v1 = refl
  at_x vx = refl

  at-0 : (a : Value) → bit_xor (may0 a) (bit_and (may1 a) (may0 a)) ≡ one-if v0 a
  at-0 v0 = refl
  at-0 v1 = refl
  at-0 vx = refl

  at_1 : (a : Value) → bit_xor (may1 a) (bit_and (may1 a) (may0 a)) ≡ one-if v1 a
  at_1 v0 = refl
  at_1 v1 = refl
  at_1 vx = refl

  both-bit : (k : ℕ) → k < n → bit k (bit_and p q) ≡ bit_and (may1 (x k)) (may0 (x k))
  both-bit k i = bit-and k p q ∙ ap₂ bit_and (h k i).0 (h k i).1

  rows-x : ones (bit_and (bit_and p q) (2 ^ n - 1)) ≡ sum (λ k. one-if vx (x k)) n
  rows-x = ones-masked (bit_and p q) n ∙ sum_same _ _ n (λ k i. both-bit k i ∙ at_x (x k))

  rows-0 : ones (bit_and (bit_xor q (bit_and p q)) (2 ^ n - 1)) ≡ sum (λ k. one-if v0 (x k)) n
  rows-0 =
      ones-masked (bit_xor q (bit_and p q)) n
      ∙ sum_same _ _ n (λ k i. bit-xor k q (bit_and p q) ∙ (ap₂ bit_xor (h k i).1 (both-bit k i) ∙ at-0 (x k)))

  rows-1 : ones (bit_and (bit_xor p (bit_and p q)) (2 ^ n - 1)) ≡ sum (λ k. one-if v1 (x k)) n
  rows-1 =
      ones-masked (bit_xor p (bit_and p q)) n
      ∙ sum_same _ _ n (λ k i. bit-xor k p (bit_and p q) ∙ (ap₂ bit_xor (h k i).0 (both-bit k i) ∙ at_1 (x k)))

  -- the rows at 0, at 1 and at x
  pub rows_all :
      ◌≡◌ {A = List ℕ}
      (ones (bit_and (bit_xor q (bit_and p q)) (2 ^ n - 1)) ∷ ones (bit_and (bit_xor p (bit_and p q)) (2 ^ n - 1))
      ∷ ones (bit_and (bit_and p q) (2 ^ n - 1)) ∷ [])
      (sum (λ k. one-if v0 (x k)) n ∷ sum (λ k. one-if v1 (x k)) n ∷ sum (λ k. one-if vx (x k)) n ∷ [])
  rows_all = λ i. rows-0 i ∷ rows-1 i ∷ rows-x i ∷ []
