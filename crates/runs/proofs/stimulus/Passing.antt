-- One pass over bytes says what their lines are.
use Prim.Native.Nat.{ℕ, suc, ◌+◌, ◌-◌}
use mathlib.Core.Path.{◌≡◌, refl, sym, ap, ap₂, ◌∙◌}
use mathlib.Core.Bool.{Bool, true, false, cond, ◌&&◌, ◌||◌}
use mathlib.Core.List.{List, [], ◌∷◌}
use Rattle.std.specs.Prelude.{Result, Ok, Err}
use Rattle.plan.specs.declared.Refusal.{Refusal}
use native.Mathlib.Nat.{add-zero, zero-add}
use native.Mathlib.Omega.{arith}
use borrow.Author.Tests.{eqb-true, ne_eqb}
use lib.Dec.{eqb}
use lib.ListN.{length, get_or}
use Rattle.plan.specs.declared.Refusal.TheVariants.{WrongByte, BadVector}
use Rattle.plan.specs.Refusals.{Parse, got, refused}
use Rattle.plan.specs.Step.{is_code}
use Rattle.plan.specs.Outcome.{all_codes}
use Rattle.plan.specs.Programs.{on_first, lines_in, all_vectors, stimulus}
use Rattle.plan.specs.Whole.{counted_by}
use Rattle.runs.specs.stimulus.Scan.{ended, scan}

-- what is said if a test passes, else 12
abbrev else12 : Bool → Result ℕ Refusal → Result ℕ Refusal
else12 t x = cond t x (Err (BadVector 2))

-- a byte more before bytes that are some
ended-more : (b a : ℕ) (l : List ℕ) → ended (b ∷ a ∷ l) ≡ ended (a ∷ l)
ended-more b a l =
    let one : suc (length l) - 1 ≡ length l = omega arith in
    let two : suc (suc (length l)) - 1 ≡ suc (length l) = omega arith in
    ap₂ (λ (t : Bool) (k : ℕ). t || eqb (get_or (b ∷ a ∷ l) k 0) 10) (ne_eqb (suc (suc (length l))) 0 (λ e. omega arith)) two
    ∙ sym (ap₂ (λ (t : Bool) (k : ℕ). t || eqb (get_or (a ∷ l) k 0) 10) (ne_eqb (suc (length l)) 0 (λ e. omega arith)) one)

pub ended-past : (b : ℕ) (l : List ℕ) → ended (b ∷ l) ≡ true → ended l ≡ true
ended-past b [] e = refl
ended-past b (a ∷ l) e = sym (ended-more b a l) ∙ e

-- lines of which the first has `column` bytes before these
abbrev pub all_from : ℕ → ℕ → List (List ℕ) → Bool
all_from w column [] = true
all_from w column (row ∷ rows) = (eqb (column + length row) w && all_codes row) && all_vectors w rows

from_start : (w : ℕ) (rows : List (List ℕ)) → all_from w 0 rows ≡ all_vectors w rows
from_start w [] = refl
from_start w (row ∷ rows) = ap (λ (k : ℕ). (eqb k w && all_codes row) && all_vectors w rows) (zero-add (length row))

abbrev pub count_from : ℕ → ℕ → ℕ → List (List ℕ) → Result ℕ Refusal
count_from w column number rows = else12 (all_from w column rows) (Ok (number + length rows))

-- a byte that is no new line at the front of the first line
no_code : (a b : Bool) → (a && (false && b)) ≡ false
no_code true b = refl
no_code false b = refl

front-past : (w column number b : ℕ) (row : List ℕ) (rows : List (List ℕ)) → column ≡ w
    → count_from w column number ((b ∷ row) ∷ rows) ≡ Err (BadVector 2)
front-past w column number b row rows e =
    ap (λ (t : Bool). else12 ((t && all_codes (b ∷ row)) && all_vectors w rows) (Ok (number + suc (length rows))))
    (ne_eqb (column + suc (length row)) w (λ h. omega arith))

front-code : (w column number b : ℕ) (row : List ℕ) (rows : List (List ℕ)) (t : Bool) → is_code b ≡ t
    → count_from w column number ((b ∷ row) ∷ rows) ≡ else12 t (count_from w (column + 1) number (row ∷ rows))
front-code w column number b row rows true e =
    let one : column + suc (length row) ≡ column + 1 + length row = omega arith in
    ap₂ (λ (k : ℕ) (c : Bool). else12 ((eqb k w && (c && all_codes row)) && all_vectors w rows) (Ok (number + suc (length rows)))) one e
front-code w column number b row rows false e =
    let wide : Bool = eqb (column + suc (length row)) w in
    ap (λ (c : Bool). else12 ((wide && (c && all_codes row)) && all_vectors w rows) (Ok (number + suc (length rows)))) e
    ∙ ap (λ (c : Bool). else12 (c && all_vectors w rows) (Ok (number + suc (length rows)))) (no_code wide (all_codes row))

-- a new line
line-ends : (w column number : ℕ) (rows : List (List ℕ)) (t : Bool) → eqb column w ≡ t
    → count_from w column number ([] ∷ rows) ≡ else12 t (count_from w 0 (number + 1) rows)
line-ends w column number rows true e =
    let one : number + suc (length rows) ≡ number + 1 + length rows = omega arith in
    let full : eqb (column + 0) w ≡ true = ap (λ (k : ℕ). eqb k w) (add-zero column) ∙ e in
    ap₂ (λ (k : ℕ) (c : Bool). else12 ((c && true) && all_vectors w rows) (Ok k)) one full
    ∙ ap (λ (c : Bool). else12 c (Ok (number + 1 + length rows))) (sym (from_start w rows))
line-ends w column number rows false e =
    let short : eqb (column + 0) w ≡ false = ap (λ (k : ℕ). eqb k w) (add-zero column) ∙ e in
    ap (λ (c : Bool). else12 ((c && true) && all_vectors w rows) (Ok (number + suc (length rows)))) short

-- bytes of which the last is a new line have a line
pub record SomeLine (l : List ℕ) : Type 0 where
  pub row : List ℕ
  pub rows : List (List ℕ)
  pub all : lines_in l ≡ row ∷ rows

one_more : (b : ℕ) (l : List ℕ) → SomeLine l → (t : Bool) → eqb b 10 ≡ t → SomeLine (b ∷ l)
one_more b l r true q = record { row = []; rows = lines_in l; all = ap (λ (t : Bool). cond t ([] ∷ lines_in l) (on_first b (lines_in l))) q }
one_more b l r false q = record {
  row = b ∷ r.row;
  rows = r.rows;
  all = ap (λ (t : Bool). cond t ([] ∷ lines_in l) (on_first b (lines_in l))) q ∙ ap (on_first b) r.all;
}

some-line : (b : ℕ) (l : List ℕ) → ended (b ∷ l) ≡ true → SomeLine (b ∷ l)
some-line b [] e = record { row = []; rows = []; all = ap (λ (t : Bool). cond t ([] ∷ lines_in []) (on_first b (lines_in []))) e }
some-line b (a ∷ l) e = one_more b (a ∷ l) (some-line a l (ended-past b (a ∷ l) e)) (eqb b 10) refl

past-byte : (b : ℕ) (l : List ℕ) → ended (b ∷ l) ≡ true → eqb b 10 ≡ false → SomeLine l
past-byte b [] e q = let z : true ≡ false = sym e ∙ q in let y : ◌≡◌ {A = ℕ} 0 1 = cc in absurd (omega arith)
past-byte b (a ∷ l) e q = some-line a l (ended-past b (a ∷ l) e)

-- the pass over one byte more, from what it says of the rest
module _ (w column number b : ℕ) (l : List ℕ) (rest : (c n : ℕ) → scan w c n l ≡ count_from w c n (lines_in l)) where
  abbrev test : Bool → Bool → Bool → Result ℕ Refusal
  test full line code =
      cond full (else12 line (scan w 0 (number + 1) l)) (else12 code (scan w (column + 1) number l))

  abbrev lines : Bool → Result ℕ Refusal
  lines t = count_from w column number (cond t ([] ∷ lines_in l) (on_first b (lines_in l)))

  ended-line : (full : Bool) → eqb column w ≡ full → test full true false ≡ lines true
  ended-line true p = rest 0 (number + 1) ∙ sym (line-ends w column number (lines_in l) true p)
  ended-line false p = sym (line-ends w column number (lines_in l) false p)

  longer-line : SomeLine l → (full : Bool) → eqb column w ≡ full → test full false (is_code b) ≡ lines false
  longer-line r true p =
      sym (front-past w column number b r.row r.rows (eqb-true column w p))
      ∙ ap (λ (x : List (List ℕ)). count_from w column number (on_first b x)) (sym r.all)
  longer-line r false p =
      ap (else12 (is_code b)) (rest (column + 1) number ∙ ap (count_from w (column + 1) number) r.all)
      ∙ (sym (front-code w column number b r.row r.rows (is_code b) refl)
      ∙ ap (λ (x : List (List ℕ)). count_from w column number (on_first b x)) (sym r.all))

  one_byte : ended (b ∷ l) ≡ true → (line : Bool) → eqb b 10 ≡ line
      → scan w column number (b ∷ l) ≡ count_from w column number (lines_in (b ∷ l))
  one_byte e true q =
      ap₂ (λ (t c : Bool). test (eqb column w) t c) q (ap is_code (eqb-true b 10 q)) ∙ (ended-line (eqb column w) refl ∙ ap lines (sym q))
  one_byte e false q =
      ap (λ (t : Bool). test (eqb column w) t (is_code b)) q ∙ (longer-line (past-byte b l e q) (eqb column w) refl ∙ ap lines (sym q))

-- the pass says what the lines are
scan-from : (w column number : ℕ) (l : List ℕ) → ended l ≡ true → scan w column number l ≡ count_from w column number (lines_in l)
scan-from w column number [] e = ap Ok (sym (add-zero number))
scan-from w column number (b ∷ l) e =
    one_byte w column number b l (λ c n. scan-from w c n l (ended-past b l e)) e (eqb b 10) refl

-- all of them, where the last line has its end
module _ (w : ℕ) (bytes : List ℕ) where
  abbrev rows : List (List ℕ)
  rows = lines_in bytes

  abbrev told : Bool → Parse (List (List ℕ))
  told good = cond good (got rows (length bytes)) (refused (BadVector 2))

  abbrev asked : Bool → Result ℕ Refusal
  asked t = counted_by (cond t (told (all_vectors w rows)) (refused (WrongByte (length bytes))))

  counted : (good : Bool) → else12 good (Ok (length rows)) ≡ counted_by (told good)
  counted true = refl
  counted false = refl

  pub scan-is : ended bytes ≡ true → scan w 0 0 bytes ≡ counted_by (stimulus w bytes)
  scan-is e =
      scan-from w 0 0 bytes e
      ∙ (ap₂ (λ (t : Bool) (k : ℕ). else12 t (Ok k)) (from_start w rows) (zero-add (length rows))
      ∙ (counted (all_vectors w rows) ∙ ap asked (sym e)))
