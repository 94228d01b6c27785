-- What a bitmap shows after a place is raised or toggled.
use mathlib.Core.Path.{◌≡◌, sym, subst}
use mathlib.Core.List.{List}
use Prim.Native.Nat.{ℕ, ◌+◌, ◌/◌, ◌%◌, ◌^◌, ◌<◌}
use lib.Bits.{bit_or, bit_xor}
use lib.ListN.{length, get_or, length-set}
use lib.Seq.{get_or-set_same, get_or-set_other}
use Rattle.tables.specs.bitmap.Bitmap.{On, OnAt, raised, toggled}
use Rattle.tables.proofs.bitmap.Words.{or_new, on-pos}

-- the table
pub on-at-pos : (t : List ℕ) (p i : ℕ) → OnAt t p i → 0 < get_or t (p + i / 32) 0
unfolding OnAt
on-at-pos t p i h = on-pos (get_or t (p + i / 32) 0) (i % 32) h

pub raised-length : (t : List ℕ) (p i : ℕ) → length (raised t p i) ≡ length t
unfolding raised
raised-length t p i = length-set t (p + i / 32) (bit_or (get_or t (p + i / 32) 0) (2 ^ (i % 32)))

module _ (t : List ℕ) (p i : ℕ) (fits : p + i / 32 < length t) where
  pub raised-here : OnAt (raised t p i) p i
  unfolding OnAt raised
  raised-here =
      subst (λ (w : ℕ). On w (i % 32)) (sym (get_or-set_same t (p + i / 32) (bit_or (get_or t (p + i / 32) 0) (2 ^ (i % 32))) 0 fits))
      (or_new (get_or t (p + i / 32) 0) (i % 32))

  pub raised-off : (j : ℕ) → (j ≡ p + i / 32 → ⊥) → get_or (raised t p i) j 0 ≡ get_or t j 0
  unfolding raised
  raised-off j n = get_or-set_other t (p + i / 32) j (bit_or (get_or t (p + i / 32) 0) (2 ^ (i % 32))) 0 n

  pub toggled-off : (j : ℕ) → (j ≡ p + i / 32 → ⊥) → get_or (toggled t p i) j 0 ≡ get_or t j 0
  unfolding toggled
  toggled-off j n = get_or-set_other t (p + i / 32) j (bit_xor (get_or t (p + i / 32) 0) (2 ^ (i % 32))) 0 n
