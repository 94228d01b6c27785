-- Where the next place of a bitmap is that is on.
use mathlib.Core.Path.{◌≡◌, refl, sym, ap, ap₂, ◌∙◌, subst}
use mathlib.Core.Bool.{Bool, true, false}
use mathlib.Core.List.{List}
use Prim.Native.Nat.{ℕ, zero, suc, ◌+◌, ◌-◌, ◌*◌, ◌/◌, ◌%◌, ◌^◌, ◌<◌, ◌≤◌}
use native.Mathlib.Nat.{pow-suc, pow-succ', div-eq_of_lt, zero-div, div-one, div-div-eq-div-mul, div-lt_iff_lt-mul, zero-lt-suc, not-suc-le-zero}
use native.Mathlib.Nat.{lt_of_lt_of_le, lt_of_le_of_lt}
use native.Mathlib.Omega.{arith}
use borrow.Author.Tests.{eqb-true, eqb-false}
use lib.Count.{count_trailing_zeros, under}
use lib.Dec.{eqb}
use lib.ListN.{get_or}
use lib.Pow.{shr-shr, pow_mono, shr_le}
use Rattle.tables.specs.bitmap.Bitmap.{On, OnAt, NextOn}

-- zeros below the lowest digit that is set
tz-dark : (d w c : ℕ) → c < count_trailing_zeros d w → w / 2 ^ c % 2 ≡ 0
unfolding count_trailing_zeros
tz-dark zero w c h = absurd (not-suc-le-zero h)
tz-dark (suc d) w c h = go (w % 2) refl c h (λ e k. tz-dark d (w / 2) e k)
  where
    go : (r : ℕ) → w % 2 ≡ r → (c : ℕ) → c < under r (count_trailing_zeros d (w / 2))
        → ((e : ℕ) → e < count_trailing_zeros d (w / 2) → w / 2 / 2 ^ e % 2 ≡ 0) → w / 2 ^ c % 2 ≡ 0
    go zero e zero k ih = ap (λ (x : ℕ). x % 2) (div-one w) ∙ e
    go zero e (suc c) k ih =
        ap (λ (x : ℕ). x % 2) (ap (λ (x : ℕ). w / x) (pow-succ' 2 c) ∙ sym (div-div-eq-div-mul w 2 (2 ^ c))) ∙ ih c (omega arith)
    go (suc r) e c k ih = absurd (not-suc-le-zero k)

half_pos : (q : ℕ) → 0 < q → q % 2 ≡ 0 → 0 < q / 2
half_pos q h e = omega arith

is_one : (q r : ℕ) → q % 2 ≡ suc r → q % 2 ≡ 1
is_one q r e = omega arith

none_below_one : (q : ℕ) → 0 < q → q < 1 → ⊥
none_below_one q h k = omega arith

tz_odd : (d q : ℕ) → 0 < q → q < 2 ^ d → q / 2 ^ count_trailing_zeros d q % 2 ≡ 1
unfolding count_trailing_zeros
tz_odd zero q h k = absurd (none_below_one q h k)
tz_odd (suc d) q h k =
    go (q % 2) refl
    (λ (e : q % 2 ≡ 0). tz_odd d (q / 2) (half_pos q h e) ((div-lt_iff_lt-mul (zero-lt-suc 1)).1 (subst (λ (x : ℕ). q < x) (pow-suc 2 d) k)))
  where
    go : (r : ℕ) → q % 2 ≡ r → (q % 2 ≡ 0 → q / 2 / 2 ^ count_trailing_zeros d (q / 2) % 2 ≡ 1) → q / 2 ^ under r (count_trailing_zeros d (q / 2)) % 2 ≡ 1
    go zero e ih =
        let t = count_trailing_zeros d (q / 2) in
        ap (λ (x : ℕ). x % 2) (ap (λ (x : ℕ). q / x) (pow-succ' 2 t) ∙ sym (div-div-eq-div-mul q 2 (2 ^ t))) ∙ ih e
    go (suc r) e ih = ap (λ (x : ℕ). x % 2) (div-one q) ∙ is_one q r e

-- a place that is on in a word of 32 is below 32
on-small : (w s d : ℕ) → w < 2 ^ 32 → w / 2 ^ s / 2 ^ d % 2 ≡ 1 → s + d < 32
on-small w s d h e = go (31 - (s + d)) refl
  where
    go : (m : ℕ) → 31 - (s + d) ≡ m → s + d < 32
    go (suc m) q = omega arith
    go zero q = by_cases (eqb (s + d) 31) refl
      where
        by_cases : (b : Bool) → eqb (s + d) 31 ≡ b → s + d < 32
        by_cases true k = omega (arith, eqb-true (s + d) 31 k)
        by_cases false k =
            let n = eqb-false (s + d) 31 k in
            let far : 32 ≤ s + d = omega (arith, n) in
            absurd (omega (arith, sym (ap (λ (x : ℕ). x % 2) (shr-shr w s d ∙ div-eq_of_lt (lt_of_lt_of_le h (pow_mono far)))) ∙ e))

-- m places from i on are dark if they are so in i's word, shifted
dark : (t : List ℕ) (p i m : ℕ) → i % 32 + m ≤ 32 → ((d : ℕ) → d < m → get_or t (p + i / 32) 0 / 2 ^ (i % 32) / 2 ^ d % 2 ≡ 0)
    → (c : ℕ) → i ≤ c → c < i + m → OnAt t p c → ⊥
unfolding OnAt On
dark t p i m fits zeros c from below h =
    let w = get_or t (p + i / 32) 0 in
    let same : c / 32 ≡ i / 32 = omega arith in
    let far : c % 32 ≡ i % 32 + (c - i) = omega arith in
    let one : w / 2 ^ (i % 32 + (c - i)) % 2 ≡ 1 = ap₂ (λ (x y : ℕ). get_or t (p + x) 0 / 2 ^ y % 2) (sym same) (sym far) ∙ h in
    let nil : w / 2 ^ (i % 32 + (c - i)) % 2 ≡ 0 = ap (λ (x : ℕ). x % 2) (sym (shr-shr w (i % 32) (c - i))) ∙ zeros (c - i) (omega arith) in
    omega (arith, sym nil ∙ one)

pub next-none : (t : List ℕ) (p i : ℕ) → get_or t (p + i / 32) 0 / 2 ^ (i % 32) ≡ 0 → NextOn t p i ((i / 32 + 1) * 32)
next-none t p i e = record {
  from = omega arith;
  near = omega arith;
  dark =
      λ c f b h. dark t p i (32 - i % 32) (omega arith)
      (λ d k. ap (λ (x : ℕ). x / 2 ^ d % 2) e ∙ ap (λ (x : ℕ). x % 2) (zero-div (2 ^ d))) c f (omega arith) h;
  there = λ h. absurd (omega arith);
}

-- a digit of i's word, shifted, is the place so much further on
on-there : (t : List ℕ) (p i z : ℕ) → i % 32 + z < 32 → get_or t (p + i / 32) 0 / 2 ^ (i % 32) / 2 ^ z % 2 ≡ 1 → OnAt t p (i + z)
unfolding OnAt On
on-there t p i z room e =
    let same : (i + z) / 32 ≡ i / 32 = omega arith in
    let far : (i + z) % 32 ≡ i % 32 + z = omega arith in
    ap₂ (λ (x y : ℕ). get_or t (p + x) 0 / 2 ^ y % 2) same far ∙
    (ap (λ (x : ℕ). x % 2) (sym (shr-shr (get_or t (p + i / 32) 0) (i % 32) z)) ∙ e)

pub next-some : (t : List ℕ) (p i : ℕ) → get_or t (p + i / 32) 0 < 2 ^ 32 → 0 < get_or t (p + i / 32) 0 / 2 ^ (i % 32)
    → NextOn t p i (i + count_trailing_zeros 32 (get_or t (p + i / 32) 0 / 2 ^ (i % 32)))
next-some t p i small pos =
    let w = get_or t (p + i / 32) 0 in
    let x = w / 2 ^ (i % 32) in
    let z = count_trailing_zeros 32 x in
    let room : i % 32 + z < 32 = on-small w (i % 32) z small (tz_odd 32 x pos shorter) in
    record {
      from = omega arith;
      near = omega arith;
      dark = λ c f b h. dark t p i z (omega arith) (λ d k. tz-dark 32 x d k) c f b h;
      there = λ h. on-there t p i z room (tz_odd 32 x pos shorter);
    }
  where
    shorter : get_or t (p + i / 32) 0 / 2 ^ (i % 32) < 2 ^ 32
    shorter = lt_of_le_of_lt (shr_le (get_or t (p + i / 32) 0) (i % 32)) small
