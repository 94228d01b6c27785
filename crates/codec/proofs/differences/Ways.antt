-- The ways through a difference at a position, with the values as the code joins them.
use Prim.Native.Nat.{ℕ, ◌+◌, ◌*◌, ◌%◌, ◌<◌, ◌≤◌}
use mathlib.Core.Path.{◌≡◌, sym, ap}
use mathlib.Core.Bool.{and-false}
use mathlib.Core.List.{List}
use Rattle.std.specs.Prelude.{Result, Ok, Err}
use Rattle.plan.specs.declared.Refusal.{Refusal}
use Rattle.plan.specs.declared.Refusal.TheVariants.{WrongByte, LongDifference}
use native.Mathlib.Omega.{arith}
use borrow.Author.Tests.{lt-ltb, le-ltb, eq-eqb, ne_eqb, lt-leb, le-leb}
use lib.Bits.{bit_and, bit_or}
use lib.ListN.{length, get_or}
use Rattle.plan.specs.Difference.{difference_at}
use Rattle.codec.proofs.differences.Bits.{join2, join3}

module _ (s : List ℕ) (at : ℕ) where
  pub ends0 : length s ≤ at → difference_at s at ≡ Err (WrongByte (length s))
  ends0 h = simp (le-leb _ _ h)

  pub value1 : at < length s → get_or s at 0 < 128 → difference_at s at ≡ Ok (get_or s at 0, at + 1)
  value1 h a = simp (lt-leb _ _ h, lt-leb _ _ a, le-ltb at at (omega arith), and-false)

  module _ (h : at < length s) (a : 128 ≤ get_or s at 0) where
    pub ends1 : length s ≤ at + 1 → difference_at s at ≡ Err (WrongByte (length s))
    ends1 i = simp (lt-leb _ _ h, le-leb _ _ a, le-leb _ _ i)

    pub bad2 : at + 1 < length s → get_or s (at + 1) 0 ≡ 0 → difference_at s at ≡ Err (LongDifference at)
    bad2 i z =
        let b : get_or s (at + 1) 0 < 128 = omega arith in
        simp (lt-leb _ _ h, le-leb _ _ a, lt-leb _ _ i, lt-leb _ _ b, eq-eqb _ _ z, lt-ltb at (at + 1) (omega arith))

    pub value2 : at + 1 < length s → get_or s (at + 1) 0 < 128 → (get_or s (at + 1) 0 ≡ 0 → ⊥)
        → difference_at s at ≡ Ok (bit_or (bit_and (get_or s at 0) 127) (get_or s (at + 1) 0 * 128 % 4294967296), at + 1 + 1)
    value2 i b z =
        simp (lt-leb _ _ h, le-leb _ _ a, lt-leb _ _ i, lt-leb _ _ b, ne_eqb _ _ z)
        (ap {B = Result (ℕ × ℕ) Refusal} (λ n. Ok (n, at + 1 + 1)) (sym (join2 (get_or s at 0) (get_or s (at + 1) 0) b)))

    module _ (i : at + 1 < length s) (b : 128 ≤ get_or s (at + 1) 0) where
      pub ends2 : length s ≤ at + 1 + 1 → difference_at s at ≡ Err (WrongByte (length s))
      ends2 j = simp (lt-leb _ _ h, le-leb _ _ a, lt-leb _ _ i, le-leb _ _ b, le-leb _ _ j)

      pub bad4 : at + 1 + 1 < length s → 128 ≤ get_or s (at + 1 + 1) 0 → difference_at s at ≡ Err (LongDifference at)
      bad4 j d = simp (lt-leb _ _ h, le-leb _ _ a, lt-leb _ _ i, le-leb _ _ b, lt-leb _ _ j, le-leb _ _ d)

      pub bad3 : at + 1 + 1 < length s → get_or s (at + 1 + 1) 0 ≡ 0 → difference_at s at ≡ Err (LongDifference at)
      bad3 j z =
          let d : get_or s (at + 1 + 1) 0 < 128 = omega arith in
          simp
          (lt-leb _ _ h, le-leb _ _ a, lt-leb _ _ i, le-leb _ _ b, lt-leb _ _ j, lt-leb _ _ d, eq-eqb _ _ z, lt-ltb at (at + 1 + 1) (omega arith))

      pub value3 : at + 1 + 1 < length s → get_or s (at + 1 + 1) 0 < 128 → (get_or s (at + 1 + 1) 0 ≡ 0 → ⊥)
          → difference_at s at
          ≡ Ok (bit_or (bit_or (bit_and (get_or s at 0) 127) (bit_and (get_or s (at + 1) 0) 127 * 128 % 4294967296)) (get_or s (at + 1 + 1) 0 * 16384 % 4294967296), at + 1 + 1 + 1)
      value3 j d z =
          simp (lt-leb _ _ h, le-leb _ _ a, lt-leb _ _ i, le-leb _ _ b, lt-leb _ _ j, lt-leb _ _ d, ne_eqb _ _ z)
          (ap {B = Result (ℕ × ℕ) Refusal} (λ n. Ok (n, at + 1 + 1 + 1)) (sym (join3 (get_or s at 0) (get_or s (at + 1) 0) (get_or s (at + 1 + 1) 0) d)))
