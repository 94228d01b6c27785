-- Lines of one width: the first line and the rest, and all of them as the rows of a table that is one byte wider.
use Prim.Native.Nat.{ℕ, zero, suc, ◌+◌, ◌≤◌, ◌<◌}
use mathlib.Core.Path.{◌≡◌, refl, sym, ap, ap₂, ◌∙◌}
use mathlib.Core.Bool.{Bool, true, false, cond, ◌&&◌}
use mathlib.Core.List.{List, [], ◌∷◌, ◌++◌, map}
use native.Mathlib.Omega.{arith}
use borrow.Author.Tests.{eqb-true}
use lib.Dec.{eqb}
use lib.ListN.{length, take, drop, length-append}
use lib.Seq.{take_at, take-take, drop-append-add}
use Rattle.plan.specs.Circuit.{rows_of}
use Rattle.plan.specs.Outcome.{all_codes}
use Rattle.plan.specs.Programs.{on_first, lines_in, all_vectors}
use Rattle.laws.proofs.Reading.Common.{and_left, and_right}

-- the first line, its new line and the rest
record FirstLine (l row : List ℕ) (rows : List (List ℕ)) : Type 0 where
  rest : List ℕ
  parts : l ≡ row ++ (10 ∷ rest)
  others : lines_in rest ≡ rows

longer-line : (b : ℕ) (l row : List ℕ) (rows : List (List ℕ)) (all : List (List ℕ)) → lines_in l ≡ all → on_first b all ≡ row ∷ rows
    → ((r : List ℕ) (rs : List (List ℕ)) → lines_in l ≡ r ∷ rs → FirstLine l r rs)
    → FirstLine (b ∷ l) row rows
longer-line b l row rows [] p e law = let z : ◌≡◌ {A = ℕ} 0 1 = cc in absurd (omega arith)
longer-line b l row rows (r ∷ rs) p e law =
    let f = law r rs p in
    let front : b ∷ r ≡ row = cc in
    let back : rs ≡ rows = cc in
    record {
      rest = f.rest;
      parts = ap (λ (x : List ℕ). b ∷ x) f.parts ∙ ap (λ (x : List ℕ). x ++ (10 ∷ f.rest)) front;
      others = f.others ∙ back;
    }

first_by : (b : ℕ) (l row : List ℕ) (rows : List (List ℕ)) (t : Bool) → eqb b 10 ≡ t
    → cond t ([] ∷ lines_in l) (on_first b (lines_in l)) ≡ row ∷ rows
    → ((r : List ℕ) (rs : List (List ℕ)) → lines_in l ≡ r ∷ rs → FirstLine l r rs)
    → FirstLine (b ∷ l) row rows
first_by b l row rows true q e law =
    let front : [] ≡ row = cc in
    let back : lines_in l ≡ rows = cc in
    record {
      rest = l;
      parts = ap₂ (λ (x : ℕ) (y : List ℕ). y ++ (x ∷ l)) (eqb-true b 10 q) front;
      others = back;
    }
first_by b l row rows false q e law = longer-line b l row rows (lines_in l) refl e law

first-line : (l row : List ℕ) (rows : List (List ℕ)) → lines_in l ≡ row ∷ rows → FirstLine l row rows
first-line [] row rows e = let z : ◌≡◌ {A = ℕ} 0 1 = cc in absurd (omega arith)
first-line (b ∷ l) row rows e = first_by b l row rows (eqb b 10) refl e (λ r rs p. first-line l r rs p)

-- lines of w codes each, of which there is one
pub record NextLine (w : ℕ) (l : List ℕ) : Type 0 where
  pub all : lines_in l ≡ take w l ∷ lines_in (drop (w + 1) l)
  pub inside : w + 1 ≤ length l
  pub good : all_vectors w (lines_in (drop (w + 1) l)) ≡ true

next-by : (w : ℕ) (l : List ℕ) (all : List (List ℕ)) → lines_in l ≡ all → all_vectors w all ≡ true → 0 < length all → NextLine w l
next-by w l [] p good h = absurd (omega arith)
next-by w l (row ∷ rows) p good h =
    let f = first-line l row rows p in
    let here = and_left (eqb (length row) w && all_codes row) (all_vectors w rows) good in
    let wide : length row ≡ w = eqb-true (length row) w (and_left (eqb (length row) w) (all_codes row) here) in
    let front : take w l ≡ row = ap (take w) f.parts ∙ take_at row (10 ∷ f.rest) w wide in
    let back : drop (w + 1) l ≡ f.rest
    = ap₂ (λ (k : ℕ) (x : List ℕ). drop (k + 1) x) (sym wide) f.parts ∙ drop-append-add row (10 ∷ f.rest) 1 in
    let others : lines_in (drop (w + 1) l) ≡ rows = ap lines_in back ∙ f.others in
    record {
      all = p ∙ ap₂ (λ (x : List ℕ) (y : List (List ℕ)). x ∷ y) (sym front) (sym others);
      inside = omega (arith, ap length f.parts ∙ length-append row (10 ∷ f.rest));
      good = ap (all_vectors w) others ∙ and_right (eqb (length row) w && all_codes row) (all_vectors w rows) good;
    }

pub next-line : (w : ℕ) (l : List ℕ) → all_vectors w (lines_in l) ≡ true → 0 < length (lines_in l) → NextLine w l
next-line w l good h = next-by w l (lines_in l) refl good h

-- so line k starts at k * (w + 1)
rows-by : (w number : ℕ) (l : List ℕ) → all_vectors w (lines_in l) ≡ true → length (lines_in l) ≡ number
    → lines_in l ≡ map (take w) (rows_of (w + 1) number l)
rows-by w zero l good e = none (lines_in l) e
  where
    none : (rows : List (List ℕ)) → length rows ≡ 0 → rows ≡ []
    none [] p = refl
    none (row ∷ rows) p = absurd (omega arith)
rows-by w (suc number) l good e =
    let f = next-line w l good (omega arith) in
    let fewer : length (lines_in (drop (w + 1) l)) ≡ number = omega (arith, ap length f.all) in
    f.all
    ∙ ap₂ (λ (x : List ℕ) (y : List (List ℕ)). x ∷ y) (sym (take-take w (w + 1) l (omega arith)))
    (rows-by w number (drop (w + 1) l) f.good fewer)

pub lines_rows : (w : ℕ) (l : List ℕ) → all_vectors w (lines_in l) ≡ true
    → lines_in l ≡ map (take w) (rows_of (w + 1) (length (lines_in l)) l)
lines_rows w l good = rows-by w (length (lines_in l)) l good refl
