-- Lines of literals and the circuit's tables.
use Prim.Native.Nat.{ℕ, suc, ◌+◌}
use mathlib.Core.Path.{◌≡◌, refl, sym, ap, ap₂, ◌∙◌}
use mathlib.Core.Bool.{Bool, true, false, not, ◌&&◌}
use mathlib.Core.List.{List, [], ◌∷◌, ◌++◌, append-nil, map}
use native.Mathlib.Omega.{arith}
use borrow.Author.Tests.{not-true}
use lib.ListN.{length, drop}
use lib.Seq.{append_snoc}
use Rattle.plan.specs.declared.Counts.{Counts}
use Rattle.plan.specs.Literals.{var_of}
use Rattle.plan.specs.Circuit.{Circuit, counts_of, one_line, latch_line, gate_line, literal_of, latch_of, gate_of, flat, heads, has, all_new, defined_in}
use Rattle.plan.specs.Circuit.{inside, all_inside, resets_ok}
use Rattle.plan.specs.Bytes.{AllSpell}
use Rattle.laws.proofs.Reading.Common.{and_left, and_right, and_intro}
use Rattle.laws.proofs.Reading.Lines.{New, RowsOk}

abbrev pub Long : ℕ → List (List ℕ) → Type 0
Long k [] = Unit {0}
Long k (row ∷ rows) = (length row ≡ k) × Long k rows

pub rows_long : (k : ℕ) (d : Bool) (m : ℕ) (seen : List ℕ) (rows : List (List ℕ)) → RowsOk k d m seen rows → Long k rows
rows_long k d m seen [] h = tt
rows_long k d m seen (row ∷ rows) h = (h.0.long, rows_long k d m (seen ++ var_of (literal_of row) ∷ []) rows h.1)

pub rows_inside : (k : ℕ) (d : Bool) (m : ℕ) (seen : List ℕ) (rows : List (List ℕ)) → RowsOk k d m seen rows → all_inside d m rows ≡ true
rows_inside k d m seen [] h = refl
rows_inside k d m seen (row ∷ rows) h = and_intro (inside d m row) _ h.0.within (rows_inside k d m (seen ++ var_of (literal_of row) ∷ []) rows h.1)

head-new : (k : ℕ) (seen row : List ℕ) → length row ≡ suc k → New true seen row → has (var_of (literal_of row)) seen ≡ false
head-new k seen [] l h = absurd (omega arith)
head-new k seen (x ∷ row) l h = h

new-head : (seen row : List ℕ) → has (var_of (literal_of row)) seen ≡ false → New true seen row
new-head seen [] h = tt
new-head seen (x ∷ row) h = h

pub rows_new : (k m : ℕ) (seen : List ℕ) (rows : List (List ℕ)) → RowsOk (suc k) true m seen rows → all_new seen (heads rows) ≡ true
rows_new k m seen [] h = refl
rows_new k m seen (row ∷ rows) h =
    and_intro (not (has (var_of (literal_of row)) seen)) _ (ap not (head-new k seen row h.0.long h.0.new))
    (rows_new k m (seen ++ var_of (literal_of row) ∷ []) rows h.1)

pub rows-defining : (k m : ℕ) (seen : List ℕ) (rows : List (List ℕ)) → Long k rows → all_inside true m rows ≡ true
    → all_new seen (heads rows) ≡ true
    → RowsOk k true m seen rows
rows-defining k m seen [] l i n = tt
rows-defining k m seen (row ∷ rows) l i n = (
  record {
    long = l.0;
    within = and_left (inside true m row) _ i;
    new = new-head seen row (not-true _ (and_left (not (has (var_of (literal_of row)) seen)) _ n));
  },
  rows-defining k m (seen ++ var_of (literal_of row) ∷ []) rows l.1 (and_right (inside true m row) _ i) (and_right (not (has (var_of (literal_of row)) seen)) _ n),
)

pub rows-using : (k m : ℕ) (seen : List ℕ) (rows : List (List ℕ)) → Long k rows → all_inside false m rows ≡ true → RowsOk k false m seen rows
rows-using k m seen [] l i = tt
rows-using k m seen (row ∷ rows) l i = (
  record { long = l.0; within = and_left (inside false m row) _ i; new = tt },
  rows-using k m (seen ++ var_of (literal_of row) ∷ []) rows l.1 (and_right (inside false m row) _ i),
)

-- rows to tables and back
one-row : (row : List ℕ) → length row ≡ 1 → one_line (literal_of row) ≡ row
one-row [] e = absurd (omega arith)
one-row (a ∷ []) e = refl
one-row (a ∷ b ∷ l) e = absurd (omega arith)

two-row : (row : List ℕ) → length row ≡ 2 → latch_line (latch_of row) ≡ row
two-row [] e = absurd (omega arith)
two-row (a ∷ []) e = absurd (omega arith)
two-row (a ∷ b ∷ []) e = refl
two-row (a ∷ b ∷ c ∷ l) e = absurd (omega arith)

three-row : (row : List ℕ) → length row ≡ 3 → gate_line (gate_of row) ≡ row
three-row [] e = absurd (omega arith)
three-row (a ∷ []) e = absurd (omega arith)
three-row (a ∷ b ∷ []) e = absurd (omega arith)
three-row (a ∷ b ∷ c ∷ []) e = refl
three-row (a ∷ b ∷ c ∷ d ∷ l) e = absurd (omega arith)

map_back : {A : Type 0} (k : ℕ) (f : List ℕ → A) (g : A → List ℕ) → ((row : List ℕ) → length row ≡ k → g (f row) ≡ row)
    → (rows : List (List ℕ)) → Long k rows → map g (map f rows) ≡ rows
map_back k f g h [] l = refl
map_back k f g h (row ∷ rows) l = ap₂ (λ (x : List ℕ) (y : List (List ℕ)). x ∷ y) (h row l.0) (map_back k f g h rows l.1)

pub one-back : (rows : List (List ℕ)) → Long 1 rows → map one_line (map literal_of rows) ≡ rows
one-back = map_back 1 literal_of one_line one-row

-- rows of one literal, one after the other
pub flat-one : (rows : List (List ℕ)) → Long 1 rows → flat rows ≡ map literal_of rows
flat-one [] l = refl
flat-one (row ∷ rows) l = ap₂ (λ (x y : List ℕ). x ++ y) (sym (one-row row l.0)) (flat-one rows l.1)

pub latch-back : (rows : List (List ℕ)) → Long 2 rows → map latch_line (map latch_of rows) ≡ rows
latch-back = map_back 2 latch_of latch_line two-row

pub gate-back : (rows : List (List ℕ)) → Long 3 rows → map gate_line (map gate_of rows) ≡ rows
gate-back = map_back 3 gate_of gate_line three-row

pub map-forth : {A : Type 0} (f : List ℕ → A) (g : A → List ℕ) → ((a : A) → f (g a) ≡ a) → (l : List A) → map f (map g l) ≡ l
map-forth f g h [] = refl
map-forth f g h (a ∷ l) = ap₂ (λ (x : _) (y : List _). x ∷ y) (h a) (map-forth f g h l)

pub map-long : {A : Type 0} (k : ℕ) (g : A → List ℕ) → ((a : A) → length (g a) ≡ k) → (l : List A) → Long k (map g l)
map-long k g h [] = tt
map-long k g h (a ∷ l) = (h a, map-long k g h l)

-- new in two parts
pub new-append : (seen xs ys : List ℕ) → all_new seen (xs ++ ys) ≡ (all_new seen xs && all_new (seen ++ xs) ys)
new-append seen [] ys = ap (λ (l : List ℕ). all_new l ys) (sym (append-nil seen))
new-append seen (x ∷ xs) ys = go (has x seen) (new-append (seen ++ (x ∷ [])) xs ys)
  where
    go : (t : Bool) → all_new (seen ++ (x ∷ [])) (xs ++ ys) ≡ (all_new (seen ++ (x ∷ [])) xs && all_new (seen ++ (x ∷ []) ++ xs) ys)
        → (not t && all_new (seen ++ (x ∷ [])) (xs ++ ys)) ≡ (not t && all_new (seen ++ (x ∷ [])) xs && all_new (seen ++ (x ∷ xs)) ys)
    go true h = refl
    go false h = h ∙ ap (λ (l : List ℕ). all_new (seen ++ (x ∷ [])) xs && all_new l ys) (append_snoc seen x xs)

pub new-both : (seen xs ys : List ℕ) → all_new seen xs ≡ true → all_new (seen ++ xs) ys ≡ true → all_new seen (xs ++ ys) ≡ true
new-both seen xs ys h k = new-append seen xs ys ∙ and_intro (all_new seen xs) _ h k

pub new-first : (seen xs ys : List ℕ) → all_new seen (xs ++ ys) ≡ true → all_new seen xs ≡ true
new-first seen xs ys h = and_left (all_new seen xs) _ (sym (new-append seen xs ys) ∙ h)

pub new-second : (seen xs ys : List ℕ) → all_new seen (xs ++ ys) ≡ true → all_new (seen ++ xs) ys ≡ true
new-second seen xs ys h = and_right (all_new seen xs) _ (sym (new-append seen xs ys) ∙ h)

-- what a body's reading says of the circuit
pub record BodyOk (file : List ℕ) (bytes : List (List ℕ) → Circuit → List ℕ) (full : Circuit → List (List ℕ)) (k more : ℕ) (n : Counts) (at : ℕ)
    (c : Circuit) (e : ℕ) : Type 0 where
  pub lats : List (List ℕ)
  pub took : drop at file ≡ bytes lats c ++ drop e file
  pub spelled : AllSpell k (k + more) (full c) lats
  pub counts : counts_of c ≡ n
  pub inputs : all_inside true c.M (map one_line c.inputs) ≡ true
  pub latches : all_inside true c.M (map latch_line c.latches) ≡ true
  pub resets : resets_ok c.latches c.resets ≡ true
  pub outputs : all_inside false c.M (map one_line c.outputs) ≡ true
  pub bads : all_inside false c.M (map one_line c.bads) ≡ true
  pub constraints : all_inside false c.M (map one_line c.constraints) ≡ true
  pub gates : all_inside true c.M (map gate_line c.gates) ≡ true
  pub different : all_new [] (defined_in c) ≡ true
