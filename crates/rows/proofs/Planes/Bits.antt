-- The bits of planes, of any width.
use Prim.Native.Nat.{ℕ, zero, suc, ◌+◌, ◌-◌, ◌*◌, ◌/◌, ◌%◌, ◌^◌, ◌<◌}
use mathlib.Core.Path.{◌≡◌, refl, sym, ap, ap₂, ◌∙◌, subst}
use native.Mathlib.Nat.{mul_comm, pow-suc, not-suc-le-zero}
use native.Mathlib.Decide.{dec_lt}
use native.Mathlib.Omega.{arith}
use lib.Arith.{digits_lt}
use lib.Bits.{bit_and, bit_or, bit_xor, and_shr, or_shr, xor_shr, and_mod, or_mod, xor_mod}
use lib.Count.{ones, ones_cat}
use lib.Pow.{high, low, field, mod-mod-pow, mod-pow-add, suc_ones}
use Rattle.rows.specs.Planes.Planes.{bit, plane_of}

pub bit-small : (k p : ℕ) → bit k p < 2
unfolding bit
bit-small k p = omega arith

-- bit k of a bitwise operation is the operation on bits k
pub bit-and : (k a b : ℕ) → bit k (bit_and a b) ≡ bit_and (bit k a) (bit k b)
unfolding bit
bit-and k a b = ap (λ (x : ℕ). x % 2) (and_shr a b k) ∙ and_mod (a / 2 ^ k) (b / 2 ^ k) 1

pub bit-or : (k a b : ℕ) → bit k (bit_or a b) ≡ bit_or (bit k a) (bit k b)
unfolding bit
bit-or k a b = ap (λ (x : ℕ). x % 2) (or_shr a b k) ∙ or_mod (a / 2 ^ k) (b / 2 ^ k) 1

pub bit-xor : (k a b : ℕ) → bit k (bit_xor a b) ≡ bit_xor (bit k a) (bit k b)
unfolding bit
bit-xor k a b = ap (λ (x : ℕ). x % 2) (xor_shr a b k) ∙ xor_mod (a / 2 ^ k) (b / 2 ^ k) 1

-- a plane cut to n lanes
pub bit_cut : (k n p : ℕ) → k < n → bit k (p % 2 ^ n) ≡ bit k p
unfolding bit
bit_cut k n p h =
    let d : ℕ = n - (1 + k) in
    let whole : n ≡ d + (1 + k) = omega arith in
    sym (field (p % 2 ^ n) 1 k)
    ∙ (ap (λ (m : ℕ). p % 2 ^ m % 2 ^ (1 + k) / 2 ^ k) whole
    ∙ (ap (λ (x : ℕ). x / 2 ^ k) (mod-mod-pow p d (1 + k)) ∙ field p 1 k))

module _ (f : ℕ → ℕ) (bits : (k : ℕ) → f k < 2) where
  pub plane-lt : (n : ℕ) → plane_of f n < 2 ^ n
  plane-lt zero = omega arith
  plane-lt (suc n) =
      subst (λ (x : ℕ). f n * 2 ^ n + plane_of f n < x) (mul_comm 2 (2 ^ n) ∙ sym (pow-suc 2 n)) (digits_lt (bits n) (plane-lt n))

  pub plane-bit : (n k : ℕ) → k < n → bit k (plane_of f n) ≡ f k
  unfolding bit
  plane-bit zero k h = absurd (not-suc-le-zero h)
  plane-bit (suc n) k h = go (dec_lt k n) (λ q. plane-bit n k q)
    where
      top : bit n (f n * 2 ^ n + plane_of f n) ≡ f n
      top = ap (λ (x : ℕ). x % 2) (high (f n) n (plane-lt n)) ∙ omega (arith, bits n)

      go : Dec (k < n) → (k < n → bit k (plane_of f n) ≡ f k) → bit k (plane_of f (suc n)) ≡ f k
      go (yes q) ih =
          sym (bit_cut k n (f n * 2 ^ n + plane_of f n) q) ∙ (ap (bit k) (low (f n) n (plane-lt n)) ∙ ih q)
      go (no q) ih =
          let e : k ≡ n = omega arith in
          ap (λ (m : ℕ). bit m (f n * 2 ^ n + plane_of f n)) e ∙ (top ∙ ap f (sym e))

-- a plane is the plane of its own bits
pub plane-self : (p n : ℕ) → plane_of (λ k. bit k p) n ≡ p % 2 ^ n
unfolding bit
plane-self p zero = omega arith
plane-self p (suc n) =
    let one : 1 + n ≡ suc n = omega arith in
    ap (λ (x : ℕ). p / 2 ^ n % 2 * 2 ^ n + x) (plane-self p n)
    ∙ (sym (mod-pow-add p 1 n) ∙ ap (λ (m : ℕ). p % 2 ^ m) one)

-- a plane that is lit in n lanes
pub plane-full : (n : ℕ) → plane_of (λ _. 1) n ≡ 2 ^ n - 1
plane-full zero = refl
plane-full (suc n) = omega (arith, plane-full n, pow-suc 2 n, suc_ones n)

-- the bits of the first n lanes, added up
abbrev pub sum : (ℕ → ℕ) → ℕ → ℕ
sum f zero = 0
sum f (suc n) = f n + sum f n

ones_bit : (x : ℕ) → x < 2 → ones x ≡ x
unfolding ones
ones_bit zero h = refl
ones_bit (suc zero) h = refl
ones_bit (suc (suc x)) h = absurd (omega arith)

-- counting the ones in a plane adds up its bits
pub ones-plane : (f : ℕ → ℕ) → ((k : ℕ) → f k < 2) → (n : ℕ) → ones (plane_of f n) ≡ sum f n
unfolding ones
ones-plane f bits zero = refl
ones-plane f bits (suc n) =
    ones_cat n (f n) (plane_of f n) (plane-lt f bits n) ∙ ap₂ (λ (x y : ℕ). x + y) (ones_bit (f n) (bits n)) (ones-plane f bits n)
