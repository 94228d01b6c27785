-- Vectors without x and their numbers; x replaced by 0.
use Prim.Native.Nat.{ℕ, zero, suc, ◌+◌, ◌*◌, ◌/◌, ◌%◌, ◌^◌, ◌≤◌, ◌<◌}
use mathlib.Core.Path.{◌≡◌, refl, sym, ap, ap₂, ◌∙◌, subst}
use mathlib.Core.Bool.{Bool, true, false, cond}
use mathlib.Core.List.{List, [], ◌∷◌, map}
use native.Mathlib.Nat.{pow-zero, pow-succ'}
use native.Mathlib.Omega.{arith}
use lib.ListN.{length}
use Rattle.plan.specs.Step.{Value, v0, v1, vx, code_of, value_of, is1}
use Rattle.plan.specs.Fillings.{FillsAt, Fills}
use Rattle.laws.proofs.Running.Refinement.{Le, Les}
use Rattle.laws.proofs.Running.Monotone.{Replaced}
use Rattle.laws.proofs.Running.WithoutX.{NotX, NoX, NoXs}
use Rattle.laws.proofs.Running.Runs.{Sized}
use Rattle.plan.specs.Search.{bit_value, bits, as_number}

bit-notx : (b : ℕ) → NotX (bit_value b)
bit-notx zero = tt
bit-notx (suc b) = tt

pub bits-nox : (n k : ℕ) → NoX (bits n k)
bits-nox zero k = tt
bits-nox (suc n) k = (bit-notx (k % 2), bits-nox n (k / 2))

pub bits-length : (n k : ℕ) → length (bits n k) ≡ n
bits-length zero k = refl
bits-length (suc n) k = ap suc (bits-length n (k / 2))

bit_is : (b : ℕ) → b < 2 → cond (is1 (bit_value b)) 1 0 ≡ b
bit_is zero h = refl
bit_is (suc zero) h = refl
bit_is (suc (suc b)) h = absurd (omega arith)

pub number-bits : (n k : ℕ) → k < 2 ^ n → as_number (bits n k) ≡ k
number-bits zero k h = omega (arith, pow-zero 2)
number-bits (suc n) k h =
    ap₂ (λ (a b : ℕ). a + 2 * b) (bit_is (k % 2) (omega arith)) (number-bits n (k / 2) (half (2 ^ n) (subst (λ (m : ℕ). k < m) (pow-succ' 2 n) h)))
    ∙ whole k
  where
    half : (m : ℕ) → k < 2 * m → k / 2 < m
    half m q = omega arith

    whole : (j : ℕ) → j % 2 + 2 * (j / 2) ≡ j
    whole j = omega arith

pub bits-number : (xs : List Value) → NoX xs → bits (length xs) (as_number xs) ≡ xs
bits-number [] h = refl
bits-number (v0 ∷ xs) h =
    let n : ℕ = as_number xs in
    let e : (0 + 2 * as_number xs) % 2 ≡ 0 = omega arith in
    let f : (0 + 2 * as_number xs) / 2 ≡ as_number xs = omega arith in
    ap₂ (λ (b k : ℕ). bit_value b ∷ bits (length xs) k) e f ∙ ap (λ (t : List Value). v0 ∷ t) (bits-number xs h.1)
bits-number (v1 ∷ xs) h =
    let e : (1 + 2 * as_number xs) % 2 ≡ 1 = omega arith in
    let f : (1 + 2 * as_number xs) / 2 ≡ as_number xs = omega arith in
    ap₂ (λ (b k : ℕ). bit_value b ∷ bits (length xs) k) e f ∙ ap (λ (t : List Value). v1 ∷ t) (bits-number xs h.1)
bits-number (vx ∷ xs) h = absurd h.0

pub number_small : (xs : List Value) → as_number xs < 2 ^ length xs
number_small [] = omega (arith, pow-zero 2)
number_small (a ∷ xs) = omega (arith, number_small xs, pow-succ' 2 (length xs), one (is1 a))
  where
    one : (t : Bool) → cond t 1 0 ≤ 1
    one true = omega arith
    one false = omega arith

-- vectors and their numbers
pub vectors-number : (n : ℕ) (is : List (List Value)) → Sized n is → NoXs is → map (bits n) (map as_number is) ≡ is
vectors-number n [] z h = refl
vectors-number n (i ∷ is) z h =
    ap₂ (λ (a : List Value) (b : List (List Value)). a ∷ b) (ap (λ (m : ℕ). bits m (as_number i)) (sym z.0) ∙ bits-number i h.0)
    (vectors-number n is z.1 h.1)

pub vectors-sized : (n : ℕ) (ms : List ℕ) → Sized n (map (bits n) ms)
vectors-sized n [] = tt
vectors-sized n (m ∷ ms) = (bits-length n m, vectors-sized n ms)

pub vectors-nox : (n : ℕ) (ms : List ℕ) → NoXs (map (bits n) ms)
vectors-nox n [] = tt
vectors-nox n (m ∷ ms) = (bits-nox n m, vectors-nox n ms)

-- x replaced by 0
abbrev pub zeroed : Value → Value
zeroed v0 = v0
zeroed v1 = v1
zeroed vx = v0

pub zeroed-les : (xs : List Value) → Les xs (map zeroed xs)
zeroed-les [] = tt
zeroed-les (v0 ∷ xs) = (tt, zeroed-les xs)
zeroed-les (v1 ∷ xs) = (tt, zeroed-les xs)
zeroed-les (vx ∷ xs) = (tt, zeroed-les xs)

pub zeroed-nox : (xs : List Value) → NoX (map zeroed xs)
zeroed-nox [] = tt
zeroed-nox (v0 ∷ xs) = (tt, zeroed-nox xs)
zeroed-nox (v1 ∷ xs) = (tt, zeroed-nox xs)
zeroed-nox (vx ∷ xs) = (tt, zeroed-nox xs)

pub zeroed-length : (xs : List Value) → length (map zeroed xs) ≡ length xs
zeroed-length [] = refl
zeroed-length (x ∷ xs) = ap suc (zeroed-length xs)

pub zeroed-replaced : (is : List (List Value)) → Replaced is (map (map zeroed) is)
zeroed-replaced [] = tt
zeroed-replaced (i ∷ is) = (zeroed-les i, zeroed-replaced is)

pub zeroed-noxs : (is : List (List Value)) → NoXs (map (map zeroed) is)
zeroed-noxs [] = tt
zeroed-noxs (i ∷ is) = (zeroed-nox i, zeroed-noxs is)

pub zeroed-sized : (n : ℕ) (is : List (List Value)) → Sized n is → Sized n (map (map zeroed) is)
zeroed-sized n [] z = tt
zeroed-sized n (i ∷ is) z = (zeroed-length i ∙ z.0, zeroed-sized n is z.1)

pub les-trans : (xs ys zs : List Value) → Les xs ys → Les ys zs → Les xs zs
les-trans [] [] zs h k = k
les-trans [] (y ∷ ys) zs h k = absurd h
les-trans (x ∷ xs) [] zs h k = absurd h
les-trans (x ∷ xs) (y ∷ ys) [] h k = absurd k
les-trans (x ∷ xs) (y ∷ ys) (z ∷ zs) h k =
    (Rattle.laws.proofs.Running.Refinement.le_trans x y z h.0 k.0, les-trans xs ys zs h.1 k.1)

pub les-length : (xs ys : List Value) → Les xs ys → length xs ≡ length ys
les-length [] [] h = refl
les-length [] (y ∷ ys) h = absurd h
les-length (x ∷ xs) [] h = absurd h
les-length (x ∷ xs) (y ∷ ys) h = ap suc (les-length xs ys h.1)

-- a filling and what it fills, in values and in codes
le-fills : (a b : Value) → Le a b → NotX b → FillsAt (Rattle.plan.specs.Fillings.is_x (code_of a)) (code_of a) (code_of b)
le-fills v0 v0 h k = refl
le-fills v0 v1 h k = absurd h
le-fills v0 vx h k = absurd h
le-fills v1 v0 h k = absurd h
le-fills v1 v1 h k = refl
le-fills v1 vx h k = absurd h
le-fills vx v0 h k = refl
le-fills vx v1 h k = refl
le-fills vx vx h k = absurd k

pub les-fills : (xs ys : List Value) → Les xs ys → NoX ys → Fills (map code_of xs) (map code_of ys)
les-fills [] [] h k = tt
les-fills [] (y ∷ ys) h k = absurd h
les-fills (x ∷ xs) [] h k = absurd h
les-fills (x ∷ xs) (y ∷ ys) h k = (le-fills x y h.0 k.0, les-fills xs ys h.1 k.1)

fills-le : (a : Value) (d : ℕ) → FillsAt (Rattle.plan.specs.Fillings.is_x (code_of a)) (code_of a) d → Le a (value_of d)
fills-le v0 d f = subst (λ (k : ℕ). Le v0 (value_of k)) (sym f) tt
fills-le v1 d f = subst (λ (k : ℕ). Le v1 (value_of k)) (sym f) tt
fills-le vx d f = tt

pub fills-les : (xs : List Value) (m : List ℕ) → Fills (map code_of xs) m → Les xs (map value_of m)
fills-les [] [] f = tt
fills-les [] (d ∷ m) f = absurd f
fills-les (x ∷ xs) [] f = absurd f
fills-les (x ∷ xs) (d ∷ m) f = (fills-le x d f.0, fills-les xs m f.1)
