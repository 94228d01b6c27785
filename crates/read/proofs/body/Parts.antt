-- A scratch that is lent in two parts: marks of symbols at its start, marks of variables after them.
use Prim.Native.Nat.{ℕ, suc, zero, ◌+◌, ◌-◌, ◌≤◌}
use mathlib.Core.Path.{◌≡◌, refl, ap, ◌∙◌}
use mathlib.Core.List.{List, [], ◌∷◌, ◌++◌, append-nil}
use native.Mathlib.Nat.{sub-zero}
use native.Mathlib.Omega.{arith}
use borrow.Rule.Slice.PartMut.{mid_of, put_mid, post_of, mid_len, Post-is, take_put, drop_put, same_len_mid}
use lib.ListN.{length, get_or, take, drop}
use lib.Seq.{get_or-drop, drop_at, drop-length, length-take-le}

-- zero throughout
abbrev pub Zeros : List ℕ → Type 0
Zeros s = (i : ℕ) → get_or s i 0 ≡ 0

zeros-take : (k : ℕ) (s : List ℕ) → Zeros s → Zeros (take k s)
zeros-take zero s h i = refl
zeros-take (suc k) [] h i = refl
zeros-take (suc k) (x ∷ s) h zero = h zero
zeros-take (suc k) (x ∷ s) h (suc i) = zeros-take k s (λ j. h (suc j)) i

zeros-drop : (k : ℕ) (s : List ℕ) → Zeros s → Zeros (drop k s)
zeros-drop k s h i = get_or-drop k s i 0 ∙ h (k + i)

pub zeros-mid : (a k : ℕ) (s : List ℕ) → Zeros s → Zeros (mid_of a k s)
zeros-mid a k s h = zeros-take k (drop a s) (zeros-drop a s h)

module _ (base : ℕ) (s ys : List ℕ) (fits : base ≤ length s) where
  -- the second part was lent and came back as ys
  abbrev pub second : List ℕ
  second = put_mid base (length s - base) s ys

  pub second-length : length ys ≡ length (mid_of base (length s - base) s) → length second ≡ length s
  second-length e = same_len_mid base (length s - base) s ys e

  -- the first part is as it was
  pub first_part : mid_of 0 (base - 0) second ≡ take base s
  first_part = ap (λ (k : ℕ). take k second) (sub-zero base) ∙ take_put base (length s - base) s ys fits

  pub first-blank : Zeros s → Zeros (mid_of 0 (base - 0) second)
  first-blank h i = ap (λ (l : List ℕ). get_or l i 0) first_part ∙ zeros-take base s h i

  pub first-length : length (mid_of 0 (base - 0) second) ≡ base
  first-length = ap length first_part ∙ length-take-le base s fits

  -- the second part, after the first was lent too and came back as zs
  pub second-part : (zs : List ℕ) → length ys ≡ length (mid_of base (length s - base) s) → length zs ≡ length (mid_of 0 (base - 0) second)
      → drop base (put_mid 0 (base - 0) second zs) ≡ ys
  second-part zs e k =
      let size : base ≤ length second = omega (arith, second-length e) in
      let none : post_of base (length s - base) s ≡ [] = Post-is base (length s) s fits ∙ drop-length s in
      drop_put 0 base second zs (omega arith) size (k ∙ mid_len 0 base second size)
      ∙ (drop_at (take base s) (ys ++ post_of base (length s - base) s) base (length-take-le base s fits)
      ∙ (ap (λ (l : List ℕ). ys ++ l) none ∙ append-nil ys))
