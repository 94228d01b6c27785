-- The loop that writes literals that run on: one literal more.
use Prim.Native.Nat.{ℕ, zero, suc, ◌+◌, ◌<◌, ◌≤◌}
use mathlib.Core.Path.{◌≡◌, sym, ap, ap₂, ◌∙◌}
use mathlib.Core.List.{List, [], ◌∷◌, ◌++◌}
use native.Mathlib.Omega.{arith}
use native.Mathlib.Numerals.{add-one}
use lib.ListN.{length, set, length-append, length-set}
use Rattle.plan.specs.Literals.{lit_of}
use Rattle.plan.specs.Binary.{lits_from}
use Rattle.plan.specs.Outcome.{put}
use Rattle.laws.proofs.Put.{put_one, put-put}
use Rattle.laws.proofs.Reading.Runs.{length-lits}

lits-last : (v n : ℕ) → lits_from v (suc n) ≡ lits_from v n ++ (lit_of (v + n) ∷ [])
lits-last v zero = let e : v ≡ v + 0 = omega arith in ap (λ (x : ℕ). lit_of x ∷ []) e
lits-last v (suc n) =
    let e : suc v + n ≡ v + suc n = omega arith in
    ap (λ (l : List ℕ). lit_of v ∷ l) (lits-last (suc v) n ∙ ap (λ (x : ℕ). lits_from (suc v) n ++ (lit_of x ∷ [])) e)

-- i literals are written
pub record RunsOn (first n : ℕ) (table₀ table : List ℕ) (i : ℕ) : Type 0 where
  pub table_is : table ≡ put table₀ 0 (lits_from first i)
  pub same : length table ≡ length table₀

pub one_written : (first n : ℕ) (table₀ table : List ℕ) (i : ℕ) → RunsOn first n table₀ table i → n ≤ length table₀ → i < n
    → (l : ℕ) → l ≡ lit_of (first + i) → RunsOn first n table₀ (set table i l) (i + 1)
one_written first n table₀ table i s room h l l-is =
    let before : List ℕ = lits_from first i in
    let size : length before ≡ i = length-lits first i in
    let both : length (before ++ (lit_of (first + i) ∷ [])) ≡ length before + 1 = length-append before _ in
    let start : i ≡ 0 + length before = omega arith in
    let fits : 0 + length (before ++ (lit_of (first + i) ∷ [])) ≤ length table₀ = omega arith in
    record {
      table_is =
          put_one table i l (omega (arith, s.same))
          ∙ (ap₂ (λ (t : List ℕ) (x : ℕ). put t i (x ∷ [])) s.table_is l-is
          ∙ (ap (λ (k : ℕ). put (put table₀ 0 before) k (lit_of (first + i) ∷ [])) start
          ∙ (put-put table₀ 0 before (lit_of (first + i) ∷ []) fits
          ∙ ap (put table₀ 0) (sym (lits-last first i) ∙ ap (lits_from first) (sym (add-one i))))));
      same = simp length-set s.same;
    }
