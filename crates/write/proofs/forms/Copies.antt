-- The loop that copies bytes one by one.
use Prim.Native.Nat.{ℕ, ◌+◌, ◌<◌, ◌≤◌}
use mathlib.Core.Path.{◌≡◌, sym, ap, ◌∙◌}
use mathlib.Core.List.{List, [], ◌∷◌, ◌++◌}
use native.Mathlib.Numerals.{add-one}
use native.Mathlib.Omega.{arith}
use lib.ListN.{length, get_or, set, take, length-append}
use lib.Seq.{take-suc, length-take-le}
use Rattle.plan.specs.Outcome.{put}
use Rattle.laws.proofs.Put.{put_one, put-put, put-length}

-- one byte more of the tail is copied
pub one-copied : (out tail : List ℕ) (at i : ℕ) → at + length tail ≤ length out → i < length tail
    → set (put out at (take i tail)) (at + i) (get_or tail i 0) ≡ put out at (take (i + 1) tail)
one-copied out tail at i fits h =
    let old : List ℕ = take i tail in
    let byte : ℕ = get_or tail i 0 in
    let long : length old ≡ i = length-take-le i tail (omega arith) in
    let both : length (old ++ (byte ∷ [])) ≡ length old + 1 = length-append old (byte ∷ []) in
    let same : length (put out at old) ≡ length out = put-length out at old (omega arith) in
    let place : at + i ≡ at + length old = omega arith in
    put_one (put out at old) (at + i) byte (omega arith)
    ∙ (ap (λ (k : ℕ). put (put out at old) k (byte ∷ [])) place
    ∙ (put-put out at old (byte ∷ []) (omega arith)
    ∙ ap (put out at) (sym (take-suc tail i 0 h) ∙ ap (λ (k : ℕ). take k tail) (sym (add-one i)))))
