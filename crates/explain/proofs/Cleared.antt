-- Codes put into a part of a buffer.
use Prim.Native.Nat.{ℕ, ◌+◌, ◌-◌, ◌≤◌}
use mathlib.Core.Path.{◌≡◌, ap, ap₂, ◌∙◌}
use mathlib.Core.List.{List, ◌++◌, map}
use native.Mathlib.Omega.{arith}
use borrow.Rule.Slice.PartMut.{mid_of, put_mid, mid_len, Post-is}
use lib.ListN.{length, take, drop, length-map, length-drop}
use lib.Seq.{length-take-le}
use Rattle.plan.specs.Step.{code_of}
use Rattle.plan.specs.Outcome.{put}
use Rattle.step.specs.values.Words.{told, values_at}

module _ (t out : List ℕ) (first count at : ℕ) (inside : first + count ≤ length t) (fits : at + count ≤ length out) where
  lent : length (mid_of at (at + count - at) out) ≡ count
  lent =
      let k : at + count - at ≡ count = omega arith in
      mid_len at (at + count) out (omega arith) ∙ k

  abbrev codes : List ℕ
  codes = map code_of (values_at t first count)

  long : length codes ≡ count
  long =
      length-map (values_at t first count) code_of ∙ length-map (take count (drop first t)) told
      ∙ length-take-le count (drop first t) (omega (arith, length-drop first t))

  pub part-put : (ys : List ℕ) → ys ≡ map code_of (values_at t first (length (mid_of at (at + count - at) out)))
      → put_mid at (at + count - at) out ys ≡ put out at codes
  part-put ys e =
      let same : ys ≡ codes = e ∙ ap (λ (k : ℕ). map code_of (values_at t first k)) lent in
      let place : at + count ≡ at + length codes = omega (arith, long) in
      ap₂ (λ (l r : List ℕ). take at out ++ (l ++ r)) same (Post-is at (at + count) out (omega arith) ∙ ap (λ (k : ℕ). drop k out) place)
