-- The vectors that a report is handed are the lines of standard input: packed, whole lines of one width are the rows of their bytes.
use Prim.Native.Nat.{ℕ, ◌≤◌}
use mathlib.Core.Path.{◌≡◌, refl, sym, ap, ap₂, ◌∙◌}
use mathlib.Core.Bool.{Bool, true, false, cond, ◌&&◌}
use mathlib.Core.List.{List, [], ◌∷◌, map}
use native.Mathlib.Omega.{arith}
use borrow.Author.Tests.{eqb-true}
use lib.Dec.{eqb}
use lib.ListN.{length}
use lib.Seq.{take_at, drop_at}
use Rattle.plan.specs.Circuit.{Circuit, rows_of, flat}
use Rattle.plan.specs.Step.{value_of, vectors_of}
use Rattle.plan.specs.Outcome.{all_codes}
use Rattle.plan.specs.Programs.{on_first, lines_in, all_vectors}
use Rattle.laws.proofs.Reading.Common.{and_left, and_right}
use Rattle.runs.specs.stimulus.Scan.{ended}
use Rattle.runs.proofs.stimulus.Passing.{ended-past}
use Rattle.runs.specs.reporting.Packing.{packed}

-- rows of one width are read back from their bytes
rows_back : (w : ℕ) (rows : List (List ℕ)) → all_vectors w rows ≡ true → rows_of w (length rows) (flat rows) ≡ rows
rows_back w [] e = refl
rows_back w (row ∷ rows) e =
    let here = and_left (eqb (length row) w && all_codes row) (all_vectors w rows) e in
    let wide : length row ≡ w = eqb-true (length row) w (and_left (eqb (length row) w) (all_codes row) here) in
    ap₂ (λ (a : List ℕ) (t : List (List ℕ)). a ∷ t) (take_at row (flat rows) w wide)
    (ap (rows_of w (length rows)) (drop_at row (flat rows) w wide)
    ∙ rows_back w rows (and_right (eqb (length row) w && all_codes row) (all_vectors w rows) e))

-- whole lines, one at least where there is a byte
first-length : (b : ℕ) (rows : List (List ℕ)) → length (on_first b rows) ≡ length rows
first-length b [] = refl
first-length b (row ∷ rows) = refl

first_flat : (b : ℕ) (rows : List (List ℕ)) → 1 ≤ length rows → flat (on_first b rows) ≡ b ∷ flat rows
first_flat b [] h = absurd (omega arith)
first_flat b (row ∷ rows) h = refl

some-line : (b : ℕ) (l : List ℕ) → ended (b ∷ l) ≡ true → 1 ≤ length (lines_in (b ∷ l))
some-line b [] e = let one = ap (λ (t : Bool). length (cond t ([] ∷ []) (on_first b []))) e in omega (arith, one)
some-line b (a ∷ l) e = go (eqb b 10) (some-line a l (ended-past b (a ∷ l) e))
  where
    go : (t : Bool) → 1 ≤ length (lines_in (a ∷ l)) → 1 ≤ length (cond t ([] ∷ lines_in (a ∷ l)) (on_first b (lines_in (a ∷ l))))
    go true h = omega arith
    go false h = omega (arith, first-length b (lines_in (a ∷ l)))

flat-lines : (l : List ℕ) → ended l ≡ true → flat (lines_in l) ≡ packed l
flat-lines [] e = refl
flat-lines (b ∷ []) e = ap (λ (t : Bool). flat (cond t ([] ∷ []) (on_first b []))) e ∙ sym (ap (λ (t : Bool). cond t [] (b ∷ [])) e)
flat-lines (b ∷ (a ∷ l)) e =
    go (eqb b 10) (flat-lines (a ∷ l) (ended-past b (a ∷ l) e)) (some-line a l (ended-past b (a ∷ l) e))
  where
    go : (t : Bool) → flat (lines_in (a ∷ l)) ≡ packed (a ∷ l) → 1 ≤ length (lines_in (a ∷ l))
        → flat (cond t ([] ∷ lines_in (a ∷ l)) (on_first b (lines_in (a ∷ l)))) ≡ cond t (packed (a ∷ l)) (b ∷ packed (a ∷ l))
    go true h some = h
    go false h some = first_flat b (lines_in (a ∷ l)) some ∙ ap (λ (x : List ℕ). b ∷ x) h

-- so a report over packed lines is a report over the lines
pub vectors-packed : (c : Circuit) (bytes : List ℕ) → ended bytes ≡ true → all_vectors (length c.inputs) (lines_in bytes) ≡ true
    → vectors_of c (length (lines_in bytes)) (packed bytes) ≡ map (map value_of) (lines_in bytes)
vectors-packed c bytes e good =
    ap (λ (l : List ℕ). map (map value_of) (rows_of (length c.inputs) (length (lines_in bytes)) l)) (sym (flat-lines bytes e))
    ∙ ap (map (map value_of)) (rows_back (length c.inputs) (lines_in bytes) good)
