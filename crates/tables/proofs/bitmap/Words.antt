-- The bits of one word: a power of two, a union with one, a difference with one.
use mathlib.Core.Path.{◌≡◌, refl, sym, ap, ◌∙◌, subst}
use Prim.Native.Nat.{ℕ, zero, suc, ◌+◌, ◌-◌, ◌*◌, ◌/◌, ◌%◌, ◌^◌, ◌<◌}
use native.Mathlib.Nat.{pow-suc, one-mul, div-eq_of_lt, zero-div, mul-mod_left, zero-lt-suc}
use native.Mathlib.Omega.{arith}
use lib.Bits.{bit_or, or_shr, or_mod, or_comm, or_zero_r}
use lib.Dec.{lit<}
use lib.Pow.{shl_exact, shl-shr, pow-lt, pow-add}
use Rattle.tables.specs.bitmap.Bitmap.{On}

-- powers of two
pub one_shl : (s : ℕ) → s < 32 → 1 * 2 ^ s % 4294967296 ≡ 2 ^ s
one_shl s h = shl_exact 1 s 32 (lit< tt) (omega arith) ∙ one-mul (2 ^ s)

pow-here : (b : ℕ) → 2 ^ b / 2 ^ b % 2 ≡ 1
pow-here b = ap (λ (x : ℕ). x / 2 ^ b % 2) (sym (one-mul (2 ^ b))) ∙ ap (λ (x : ℕ). x % 2) (shl-shr 1 b)

pow_below : (c d : ℕ) → 2 ^ (suc d + c) / 2 ^ c % 2 ≡ 0
pow_below c d =
    ap (λ (x : ℕ). x / 2 ^ c % 2) (pow-add 2 (suc d) c) ∙ ap (λ (x : ℕ). x % 2) (shl-shr (2 ^ suc d) c) ∙ ap (λ (x : ℕ). x % 2)
    (pow-suc 2 d) ∙ mul-mod_left (2 ^ d) 2

pow-above : (b c : ℕ) → b < c → 2 ^ b / 2 ^ c % 2 ≡ 0
pow-above b c h = ap (λ (x : ℕ). x % 2) (div-eq_of_lt (pow-lt h))

pow-other : (b c : ℕ) → (c ≡ b → ⊥) → 2 ^ b / 2 ^ c % 2 ≡ 0
pow-other b c n = go (b - c) refl
  where
    go : (d : ℕ) → b - c ≡ d → 2 ^ b / 2 ^ c % 2 ≡ 0
    go zero e = pow-above b c (omega (arith, n))
    go (suc d) e =
        let q : suc d + c ≡ b = omega arith in
        subst (λ (x : ℕ). 2 ^ x / 2 ^ c % 2 ≡ 0) q (pow_below c d)

-- one digit of a union
or-one : (y : ℕ) → y < 2 → bit_or 1 y ≡ 1
or-one zero h = refl
or-one (suc zero) h = refl
or-one (suc (suc y)) h = absurd (omega arith)

pub or-on : (w x c : ℕ) → On w c → On (bit_or w x) c
unfolding On
or-on w x c h =
    ap (λ (n : ℕ). n % 2) (or_shr w x c) ∙ or_mod (w / 2 ^ c) (x / 2 ^ c) 1 ∙ ap (λ (n : ℕ). bit_or n (x / 2 ^ c % 2)) h ∙ or-one
    (x / 2 ^ c % 2) (omega arith)

pub or_new : (w b : ℕ) → On (bit_or w (2 ^ b)) b
unfolding On
or_new w b = ap (λ (n : ℕ). n / 2 ^ b % 2) (or_comm w (2 ^ b)) ∙ or-on (2 ^ b) w b (pow-here b)

-- a union with one bit leaves the others as they are
pub or-other : (w b c : ℕ) → (c ≡ b → ⊥) → bit_or w (2 ^ b) / 2 ^ c % 2 ≡ w / 2 ^ c % 2
or-other w b c n =
    ap (λ (m : ℕ). m % 2) (or_shr w (2 ^ b) c) ∙ or_mod (w / 2 ^ c) (2 ^ b / 2 ^ c) 1 ∙ ap (λ (x : ℕ). bit_or (w / 2 ^ c % 2) x)
    (pow-other b c n) ∙ or_zero_r (w / 2 ^ c % 2)

pub on-pos : (w c : ℕ) → On w c → 0 < w
unfolding On
on-pos zero c h = absurd (omega (arith, sym (ap (λ (x : ℕ). x % 2) (zero-div (2 ^ c))) ∙ h))
on-pos (suc w) c h = zero-lt-suc w
