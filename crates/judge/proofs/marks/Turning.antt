-- A place of a bitmap that is turned over; a word that is not 0 has a place that is on.
use mathlib.Core.Path.{◌≡◌, refl, sym, ap, ap₂, ◌∙◌, subst}
use mathlib.Core.Bool.{Bool, true, false, not}
use mathlib.Core.List.{List}
use Prim.Native.Nat.{ℕ, zero, suc, ◌+◌, ◌*◌, ◌/◌, ◌%◌, ◌^◌, ◌<◌}
use native.Mathlib.Nat.{zero-div, div-one, pow-suc, pow-succ', div-div-eq-div-mul, div-lt_iff_lt-mul, zero-lt-suc}
use native.Mathlib.Omega.{arith}
use borrow.Author.Tests.{eq-eqb, eqb-true, eqb-false}
use lib.Bits.{bit_xor, or_zero_l, xor_shr, xor_mod, xor_zero_r}
use lib.Dec.{eqb}
use lib.ListN.{length, get_or, set}
use lib.Seq.{get_or-set_same, get_or-set_other}
use Rattle.tables.specs.bitmap.Bitmap.{On, OnAt, is_on, toggled, NextOn}
use Rattle.tables.proofs.bitmap.Words.{or_new, or-other}
use Rattle.tables.proofs.bitmap.Places.{on-at-pos}

-- the two ways to say that a place is on
pub lit : (t : List ℕ) (p i : ℕ) → is_on t p i ≡ true → OnAt t p i
unfolding OnAt On is_on
lit t p i h = eqb-true _ 1 h

pub told : (t : List ℕ) (p i : ℕ) → OnAt t p i → is_on t p i ≡ true
unfolding OnAt On is_on
told t p i h = eq-eqb _ 1 h

pub lit-pos : (t : List ℕ) (p i : ℕ) → is_on t p i ≡ true → 0 < get_or t (p + i / 32) 0
lit-pos t p i h = on-at-pos t p i (lit t p i h)

-- one digit of a difference with a power of two
xor-one : (x : ℕ) → x < 2 → eqb (bit_xor x 1) 1 ≡ not (eqb x 1)
xor-one zero h = refl
xor-one (suc zero) h = refl
xor-one (suc (suc x)) h = absurd (omega arith)

pow-here : (b : ℕ) → 2 ^ b / 2 ^ b % 2 ≡ 1
unfolding On
pow-here b = ap (λ (x : ℕ). x / 2 ^ b % 2) (sym (or_zero_l (2 ^ b))) ∙ or_new 0 b

pow-other : (b c : ℕ) → (c ≡ b → ⊥) → 2 ^ b / 2 ^ c % 2 ≡ 0
pow-other b c n =
    ap (λ (x : ℕ). x / 2 ^ c % 2) (sym (or_zero_l (2 ^ b))) ∙ (or-other 0 b c n ∙ ap (λ (x : ℕ). x % 2) (zero-div (2 ^ c)))

digit : (w b c : ℕ) → bit_xor w (2 ^ b) / 2 ^ c % 2 ≡ bit_xor (w / 2 ^ c % 2) (2 ^ b / 2 ^ c % 2)
digit w b c = ap (λ (m : ℕ). m % 2) (xor_shr w (2 ^ b) c) ∙ xor_mod (w / 2 ^ c) (2 ^ b / 2 ^ c) 1

xor-here : (w b : ℕ) → eqb (bit_xor w (2 ^ b) / 2 ^ b % 2) 1 ≡ not (eqb (w / 2 ^ b % 2) 1)
xor-here w b =
    ap (λ (x : ℕ). eqb x 1) (digit w b b ∙ ap (λ (x : ℕ). bit_xor (w / 2 ^ b % 2) x) (pow-here b)) ∙ xor-one (w / 2 ^ b % 2) (omega arith)

xor-other : (w b c : ℕ) → (c ≡ b → ⊥) → bit_xor w (2 ^ b) / 2 ^ c % 2 ≡ w / 2 ^ c % 2
xor-other w b c n = digit w b c ∙ (ap (λ (x : ℕ). bit_xor (w / 2 ^ c % 2) x) (pow-other b c n) ∙ xor_zero_r (w / 2 ^ c % 2))

module _ (t : List ℕ) (p i : ℕ) (fits : p + i / 32 < length t) where
  pub turned-here : is_on (toggled t p i) p i ≡ not (is_on t p i)
  unfolding is_on toggled
  turned-here =
      ap (λ (w : ℕ). eqb (w / 2 ^ (i % 32) % 2) 1) (get_or-set_same t (p + i / 32) (bit_xor (get_or t (p + i / 32) 0) (2 ^ (i % 32))) 0 fits)
      ∙ xor-here (get_or t (p + i / 32) 0) (i % 32)

  pub turned-others : (j : ℕ) → (j ≡ i → ⊥) → is_on (toggled t p i) p j ≡ is_on t p j
  unfolding is_on toggled
  turned-others j n = go (eqb (j / 32) (i / 32)) refl
    where
      go : (b : Bool) → eqb (j / 32) (i / 32) ≡ b
          → eqb (get_or (set t (p + i / 32) (bit_xor (get_or t (p + i / 32) 0) (2 ^ (i % 32)))) (p + j / 32) 0 / 2 ^ (j % 32) % 2) 1
          ≡ eqb (get_or t (p + j / 32) 0 / 2 ^ (j % 32) % 2) 1
      go true e =
          let same : j / 32 ≡ i / 32 = eqb-true (j / 32) (i / 32) e in
          rw (same, get_or-set_same t (p + i / 32) (bit_xor (get_or t (p + i / 32) 0) (2 ^ (i % 32))) 0 fits)
          (ap (λ (x : ℕ). eqb x 1) (xor-other (get_or t (p + i / 32) 0) (i % 32) (j % 32) (λ q. n (omega arith))))
      go false e =
          let other : p + j / 32 ≡ p + i / 32 → ⊥ = λ q. eqb-false (j / 32) (i / 32) e (omega arith) in
          ap (λ (w : ℕ). eqb (w / 2 ^ (j % 32) % 2) 1)
          (get_or-set_other t (p + i / 32) (p + j / 32) (bit_xor (get_or t (p + i / 32) 0) (2 ^ (i % 32))) 0 other)

-- a word of which no digit is set is 0
both_zero : (w : ℕ) → w % 2 ≡ 0 → w / 2 ≡ 0 → w ≡ 0
both_zero w h k = omega arith

digits-zero : (d w : ℕ) → w < 2 ^ d → ((c : ℕ) → c < d → w / 2 ^ c % 2 ≡ 0) → w ≡ 0
digits-zero zero w h z = below_one w h
  where
    below_one : (w : ℕ) → w < 1 → w ≡ 0
    below_one w h = omega arith
digits-zero (suc d) w h z =
    both_zero w (ap (λ (x : ℕ). x % 2) (sym (div-one w)) ∙ z 0 (zero-lt-suc d))
    (digits-zero d (w / 2) ((div-lt_iff_lt-mul (zero-lt-suc 1)).1 (subst (λ (x : ℕ). w < x) (pow-suc 2 d) h))
    (λ c k. ap (λ (x : ℕ). x % 2) (div-div-eq-div-mul w 2 (2 ^ c) ∙ ap (λ (x : ℕ). w / x) (sym (pow-succ' 2 c))) ∙ z (suc c) (omega arith)))

place : (t : List ℕ) (p w c : ℕ) → c < 32 → get_or t (p + w) 0 / 2 ^ c % 2 ≡ 1 → OnAt t p (32 * w + c)
unfolding OnAt On
place t p w c h q =
    let here : (32 * w + c) / 32 ≡ w = omega arith in
    let rest : (32 * w + c) % 32 ≡ c = omega arith in
    ap₂ (λ (x y : ℕ). get_or t (p + x) 0 / 2 ^ y % 2) here rest ∙ q

-- the search in a word that is not 0 finds a place in it
pub next-there : (t : List ℕ) (p w r : ℕ) → get_or t (p + w) 0 < 2 ^ 32 → 0 < get_or t (p + w) 0 → NextOn t p (32 * w) r → r < 32 * w + 32
next-there t p w r small pos s = go (eqb r (32 * w + 32)) refl
  where
    go : (b : Bool) → eqb r (32 * w + 32) ≡ b → r < 32 * w + 32
    go false e = omega (arith, s.near, eqb-false r (32 * w + 32) e)
    go true e = absurd (omega (arith, digits-zero 32 (get_or t (p + w) 0) small dark, pos))
      where
        dark : (c : ℕ) → c < 32 → get_or t (p + w) 0 / 2 ^ c % 2 ≡ 0
        dark c k =
            off (get_or t (p + w) 0 / 2 ^ c % 2) (omega arith)
            (λ q. s.dark (32 * w + c) (omega arith) (omega (arith, eqb-true r (32 * w + 32) e)) (place t p w c k q))
          where
            off : (x : ℕ) → x < 2 → (x ≡ 1 → ⊥) → x ≡ 0
            off x h n = omega (arith, n)
