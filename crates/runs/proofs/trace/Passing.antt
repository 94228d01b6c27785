-- The position past lines: no line more, and the end.
use Prim.Native.Nat.{ℕ, ◌+◌, ◌≤◌, min}
use mathlib.Core.Path.{◌≡◌, refl, ap, ◌∙◌}
use mathlib.Core.List.{List, [], ◌∷◌}
use native.Mathlib.Decide.{dec_le}
use native.Mathlib.Omega.{arith}
use lib.ListN.{length, drop, drop_of_length-le}
use Rattle.runs.specs.trace.Tracing.{bytes_of_lines, past_lines}

-- `left` lines are to come from `at` on
pub record Passing (bytes : List ℕ) (from count at left : ℕ) : Type 0 where
  pub within : at ≤ length bytes
  pub to-come : at + bytes_of_lines left (drop at bytes) ≡ past_lines bytes from count

pub passing-first : (bytes : List ℕ) (from count at : ℕ) → at ≡ min from (length bytes) → Passing bytes from count at count
passing-first bytes from count at e = record {
  within = omega arith;
  to-come = ap (λ (k : ℕ). k + bytes_of_lines count (drop k bytes)) e;
}

no_line : (l : List ℕ) → bytes_of_lines 0 l ≡ 0
no_line [] = refl
no_line (b ∷ l) = refl

module _ {bytes : List ℕ} {from count at left : ℕ} (p : Passing bytes from count at left) where
  -- no line is left
  pub past-lines : left ≡ 0 → at ≡ past_lines bytes from count
  past-lines e =
      let none : bytes_of_lines left (drop at bytes) ≡ 0 = ap (λ (k : ℕ). bytes_of_lines k (drop at bytes)) e ∙ no_line (drop at bytes) in
      omega (arith, p.to-come)

  -- no byte is left
  pub past_bytes : length bytes ≤ at → at ≡ past_lines bytes from count
  past_bytes h =
      let none : bytes_of_lines left (drop at bytes) ≡ 0 = ap (bytes_of_lines left) (drop_of_length-le bytes {i = at} h) in
      omega (arith, p.to-come)

-- the end of the bytes, also where they end before the start
pub past_all : (bytes : List ℕ) (from count at left : ℕ) → length bytes ≤ at → (from ≤ length bytes → Passing bytes from count at left)
    → length bytes ≡ past_lines bytes from count
past_all bytes from count at left h p = go (dec_le from (length bytes))
  where
    go : Dec (from ≤ length bytes) → length bytes ≡ past_lines bytes from count
    go (yes q) = let r = p q in let e : length bytes ≡ at = omega (arith, r.within) in e ∙ past_bytes r h
    go (no q) = past_bytes (passing-first bytes from count (length bytes) (omega arith)) (omega arith)
