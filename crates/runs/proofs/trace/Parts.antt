-- A part of a line: codes that are stored into a part of a buffer, and the byte after them.
use Prim.Native.Nat.{ℕ, ◌+◌, ◌-◌, ◌≤◌, ◌<◌}
use mathlib.Core.Path.{◌≡◌, ap, ap₂, ◌∙◌}
use mathlib.Core.List.{List, [], ◌∷◌, ◌++◌, map}
use native.Mathlib.Omega.{arith}
use borrow.Rule.Slice.PartMut.{mid_of, put_mid, mid_len, Post-is}
use lib.ListN.{length, take, drop, set, length-map, length-append, length-drop}
use lib.Seq.{length-take-le}
use Rattle.plan.specs.Step.{Value, code_of}
use Rattle.plan.specs.Outcome.{put}
use Rattle.laws.proofs.Put.{put_one, put-put, put-length}
use Rattle.step.specs.values.Words.{told, values_at}
use Rattle.runs.specs.trace.Tracing.{part}

pub codes-length : (l : List Value) (n : ℕ) → length l ≡ n → length (map code_of l) ≡ n
codes-length l n e = length-map l code_of ∙ e

values_length : (t : List ℕ) (first count : ℕ) → first + count ≤ length t → length (values_at t first count) ≡ count
values_length t first count h =
    length-map (take count (drop first t)) told ∙ length-take-le count (drop first t) (omega (arith, length-drop first t))

module _ (t out : List ℕ) (first count last at : ℕ) (inside : first + count ≤ length t) (fits : at + count < length out) where
  lent : length (mid_of at (at + count - at) out) ≡ count
  lent =
      let k : at + count - at ≡ count = omega arith in
      mid_len at (at + count) out (omega arith) ∙ k

  abbrev codes : List ℕ
  codes = map code_of (values_at t first count)

  long : length codes ≡ count
  long = codes-length (values_at t first count) count (values_length t first count inside)

  pub part-lent : first + length (mid_of at (at + count - at) out) ≤ length t
  part-lent = omega (arith, lent)

  pub part-put : (ys : List ℕ) → ys ≡ map code_of (values_at t first (length (mid_of at (at + count - at) out)))
      → set (put_mid at (at + count - at) out ys) (at + count) last ≡ put out at (part t first count last)
  part-put ys e =
      let same : ys ≡ codes = e ∙ ap (λ (k : ℕ). map code_of (values_at t first k)) lent in
      let place : at + count ≡ at + length codes = omega (arith, long) in
      let both : length (codes ++ (last ∷ [])) ≡ length codes + 1 = length-append codes (last ∷ []) in
      let size : length (put out at codes) ≡ length out = put-length out at codes (omega (arith, long)) in
      ap₂ (λ (l r : List ℕ). set (take at out ++ (l ++ r)) (at + count) last) same
      (Post-is at (at + count) out (omega arith) ∙ ap (λ (k : ℕ). drop k out) place)
      ∙ (ap (λ (k : ℕ). set (put out at codes) k last) place
      ∙ (put_one (put out at codes) (at + length codes) last (omega (arith, long))
      ∙ put-put out at codes (last ∷ []) (omega (arith, long))))
