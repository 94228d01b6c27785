-- Codes and values: each leads to the other, in a vector of codes at each place.
use Prim.Native.Nat.{ℕ, zero, suc, ◌<◌}
use mathlib.Core.Path.{◌≡◌, refl, sym, ap, ap₂, ◌∙◌}
use mathlib.Core.Bool.{Bool, true, false, cond, ◌||◌, false≢true}
use mathlib.Core.List.{List, [], ◌∷◌}
use native.Mathlib.Nat.{not-suc-le-zero, le_of_suc-le-suc}
use borrow.Author.Tests.{eqb-true, ne_eqb}
use lib.Dec.{eqb}
use lib.ListN.{length, get_or}
use Rattle.plan.specs.Step.{Value, v0, v1, vx, code_of, value_of, is_code, and}
use Rattle.plan.specs.Outcome.{all_codes}
use Rattle.laws.proofs.Reading.Common.{and_left, and_right}

pub value-code : (a : Value) → value_of (code_of a) ≡ a
value-code v0 = refl
value-code v1 = refl
value-code vx = refl

pub code-value : (b : ℕ) → is_code b ≡ true → code_of (value_of b) ≡ b
code-value b h = go (eqb b 48) (eqb b 49) (eqb b 120) refl refl refl h
  where
    go : (x y z : Bool) → eqb b 48 ≡ x → eqb b 49 ≡ y → eqb b 120 ≡ z → (x || (y || z)) ≡ true → code_of (cond x v0 (cond y v1 vx)) ≡ b
    go true y z p q r k = sym (eqb-true b 48 p)
    go false true z p q r k = sym (eqb-true b 49 q)
    go false false true p q r k = sym (eqb-true b 120 r)
    go false false false p q r k = absurd (false≢true k)

pub codes_at : (l : List ℕ) → all_codes l ≡ true → (k : ℕ) → k < length l → is_code (get_or l k 0) ≡ true
codes_at [] h k lt = absurd (not-suc-le-zero lt)
codes_at (b ∷ l) h zero lt = and_left (is_code b) (all_codes l) h
codes_at (b ∷ l) h (suc k) lt = codes_at l (and_right (is_code b) (all_codes l) h) k (le_of_suc-le-suc lt)

-- a code that is neither "0" nor "1"
pub value-x : (a : ℕ) → (a ≡ 48 → ⊥) → (a ≡ 49 → ⊥) → value_of a ≡ vx
value-x a h k = simp (ne_eqb a 48 h, ne_eqb a 49 k)

-- the And, by the rule's words: 0 if either is 0, 1 if both are 1, else x
zero-first : (y : Value) → and v0 y ≡ v0
zero-first v0 = refl
zero-first v1 = refl
zero-first vx = refl

zero-second : (x : Value) → and x v0 ≡ v0
zero-second v0 = refl
zero-second v1 = refl
zero-second vx = refl

pub first-zero : (a b : ℕ) → a ≡ 48 → 48 ≡ code_of (and (value_of a) (value_of b))
first-zero a b e = sym (ap (λ (k : ℕ). code_of (and (value_of k) (value_of b))) e ∙ ap code_of (zero-first (value_of b)))

pub second-zero : (a b : ℕ) → b ≡ 48 → 48 ≡ code_of (and (value_of a) (value_of b))
second-zero a b e = sym (ap (λ (k : ℕ). code_of (and (value_of a) (value_of k))) e ∙ ap code_of (zero-second (value_of a)))

-- no 0, and one that is not 1
x-and : (b : ℕ) → (b ≡ 48 → ⊥) → and vx (value_of b) ≡ vx
x-and b h = rw (ne_eqb b 48 h) (go (eqb b 49))
  where
    go : (t : Bool) → and vx (cond t v1 vx) ≡ vx
    go true = refl
    go false = refl

and-x : (a : ℕ) → (a ≡ 48 → ⊥) → and (value_of a) vx ≡ vx
and-x a h = rw (ne_eqb a 48 h) (go (eqb a 49))
  where
    go : (t : Bool) → and (cond t v1 vx) vx ≡ vx
    go true = refl
    go false = refl

module _ (a b : ℕ) (ha : a ≡ 48 → ⊥) (hb : b ≡ 48 → ⊥) where
  pub first-x : (a ≡ 49 → ⊥) → 120 ≡ code_of (and (value_of a) (value_of b))
  first-x k = sym (ap (λ (v : Value). code_of (and v (value_of b))) (value-x a ha k) ∙ ap code_of (x-and b hb))

  pub second-x : (b ≡ 49 → ⊥) → 120 ≡ code_of (and (value_of a) (value_of b))
  second-x k = sym (ap (λ (v : Value). code_of (and (value_of a) v)) (value-x b hb k) ∙ ap code_of (and-x a ha))

pub both_one : (a b : ℕ) → a ≡ 49 → b ≡ 49 → 49 ≡ code_of (and (value_of a) (value_of b))
both_one a b e f = sym (ap₂ (λ (x y : ℕ). code_of (and (value_of x) (value_of y))) e f)
