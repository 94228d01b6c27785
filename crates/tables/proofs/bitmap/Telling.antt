-- Whether a place of a bitmap is on: by its word, and after a place is raised.
use mathlib.Core.Path.{◌≡◌, refl, ap}
use mathlib.Core.Bool.{Bool, true, false}
use mathlib.Core.List.{List}
use Prim.Native.Nat.{ℕ, ◌+◌, ◌/◌, ◌%◌, ◌^◌, ◌<◌}
use native.Mathlib.Nat.{zero-div}
use native.Mathlib.Omega.{arith}
use borrow.Author.Tests.{eq-eqb, eqb-true, eqb-false}
use lib.Bits.{bit_or}
use lib.Dec.{eqb}
use lib.ListN.{length, get_or, set}
use lib.Seq.{get_or-set_same, get_or-set_other}
use Rattle.tables.specs.bitmap.Bitmap.{On, OnAt, is_on, raised}
use Rattle.tables.proofs.bitmap.Words.{or-other}
use Rattle.tables.proofs.bitmap.Places.{raised-here}

-- the bit of a word tells
told-on : (t : List ℕ) (p i : ℕ) → OnAt t p i → is_on t p i ≡ true
unfolding OnAt On is_on
told-on t p i h = eq-eqb _ 1 h

pub told_same : (t u : List ℕ) (p i : ℕ) → get_or u (p + i / 32) 0 ≡ get_or t (p + i / 32) 0 → is_on u p i ≡ is_on t p i
unfolding is_on
told_same t u p i e = ap (λ (w : ℕ). eqb (w / 2 ^ (i % 32) % 2) 1) e

pub blank-off : (t : List ℕ) (p i : ℕ) → get_or t (p + i / 32) 0 ≡ 0 → is_on t p i ≡ false
unfolding is_on
blank-off t p i e = rw (e, zero-div (2 ^ (i % 32)))

module _ (t : List ℕ) (p i : ℕ) (fits : p + i / 32 < length t) where
  pub raised-on : is_on (raised t p i) p i ≡ true
  raised-on = told-on (raised t p i) p i (raised-here t p i fits)

  pub raised-others : (j : ℕ) → (j ≡ i → ⊥) → is_on (raised t p i) p j ≡ is_on t p j
  unfolding is_on raised
  raised-others j n = go (eqb (j / 32) (i / 32)) refl
    where
      go : (b : Bool) → eqb (j / 32) (i / 32) ≡ b
          → eqb (get_or (set t (p + i / 32) (bit_or (get_or t (p + i / 32) 0) (2 ^ (i % 32)))) (p + j / 32) 0 / 2 ^ (j % 32) % 2) 1
          ≡ eqb (get_or t (p + j / 32) 0 / 2 ^ (j % 32) % 2) 1
      go true e =
          let same : j / 32 ≡ i / 32 = eqb-true (j / 32) (i / 32) e in
          rw (same, get_or-set_same t (p + i / 32) (bit_or (get_or t (p + i / 32) 0) (2 ^ (i % 32))) 0 fits)
          (ap (λ (x : ℕ). eqb x 1) (or-other (get_or t (p + i / 32) 0) (i % 32) (j % 32) (λ q. n (omega arith))))
      go false e =
          let other : p + j / 32 ≡ p + i / 32 → ⊥ = λ q. eqb-false (j / 32) (i / 32) e (omega arith) in
          ap (λ (w : ℕ). eqb (w / 2 ^ (j % 32) % 2) 1)
          (get_or-set_other t (p + i / 32) (p + j / 32) (bit_or (get_or t (p + i / 32) 0) (2 ^ (i % 32))) 0 other)
