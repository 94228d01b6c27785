-- A part of a line: bytes put into a buffer, and the byte after them.
use Prim.Native.Nat.{ℕ, ◌+◌, ◌-◌, ◌<◌}
use mathlib.Core.Path.{◌≡◌, ap, ◌∙◌}
use mathlib.Core.List.{List, [], ◌∷◌, ◌++◌}
use native.Mathlib.Omega.{arith}
use borrow.Rule.Slice.PartMut.{mid_of, put_mid, mid_len, Post-is}
use lib.ListN.{length, take, drop, set, length-append}
use Rattle.plan.specs.Outcome.{put}
use Rattle.laws.proofs.Put.{put-length, put_one, put-put}

pub put_last : (out : List ℕ) (at : ℕ) (x : List ℕ) (last : ℕ) → at + length x < length out
    → set (put out at x) (at + length x) last ≡ put out at (x ++ (last ∷ []))
put_last out at x last h =
    let both : length (x ++ (last ∷ [])) ≡ length x + 1 = length-append x (last ∷ []) in
    let size : length (put out at x) ≡ length out = put-length out at x (omega arith) in
    put_one (put out at x) (at + length x) last (omega arith) ∙ put-put out at x (last ∷ []) (omega arith)

-- the same where the bytes went into a part that was lent
module _ (out : List ℕ) (at count : ℕ) (inside : at + count < length out) where
  pub part-long : length (mid_of at (at + count - at) out) ≡ count
  part-long =
      let k : at + count - at ≡ count = omega arith in
      mid_len at (at + count) out (omega arith) ∙ k

  pub part-last : (x : List ℕ) (last : ℕ) → length x ≡ count
      → set (put_mid at (at + count - at) out x) (at + count) last ≡ put out at (x ++ (last ∷ []))
  part-last x last e =
      let place : at + count ≡ at + length x = omega arith in
      ap (λ (r : List ℕ). set (take at out ++ (x ++ r)) (at + count) last)
      (Post-is at (at + count) out (omega arith) ∙ ap (λ (k : ℕ). drop k out) place)
      ∙ (ap (λ (k : ℕ). set (put out at x) k last) place ∙ put_last out at x last (omega arith))
