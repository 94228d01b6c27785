-- Demand 3 in bytes: where a byte of the first is not "x", the second has the same byte.
use Prim.Native.Nat.{ℕ, zero, suc, ◌+◌, ◌*◌}
use mathlib.Core.Path.{◌≡◌, refl, sym, ap, ◌∙◌, subst}
use mathlib.Core.Bool.{Bool, true, false, cond, ◌||◌, false≢true}
use mathlib.Core.List.{List, [], ◌∷◌, ◌++◌, map}
use native.Mathlib.Nat.{suc-mul}
use native.Mathlib.Omega.{arith}
use borrow.Author.Tests.{eqb-true, eqb-false}
use lib.Dec.{eqb}
use lib.ListN.{length, take, drop, length-map, length-drop}
use lib.Seq.{length-take-le}
use Rattle.plan.specs.Circuit.{rows_of}
use Rattle.plan.specs.Step.{Value, v0, v1, vx, code_of, value_of, is_code, Step}
use Rattle.plan.specs.Outcome.{all_codes}
use Rattle.plan.specs.Rows.{output_bytes, next_bytes}
use Rattle.laws.proofs.Reading.Common.{and_left, and_right}
use Rattle.laws.proofs.Running.Refinement.{Le, Les, le_of}
use Rattle.laws.proofs.Running.Monotone.{Replaced, Kept}
use Rattle.laws.proofs.Running.Runs.{Sized}
use Rattle.laws.proofs.Running.WithoutX.{NotX, NoX, NoXs}

-- as many bytes, and the same ones where the first has no "x" (120)
abbrev pub KeptBytes : List ℕ → List ℕ → Type 0
KeptBytes [] [] = Unit {0}
KeptBytes [] (b ∷ m) = ⊥
KeptBytes (a ∷ l) [] = ⊥
KeptBytes (a ∷ l) (b ∷ m) = (¬ (a ≡ 120) → b ≡ a) × KeptBytes l m

abbrev pub NoXBytes : List ℕ → Type 0
NoXBytes [] = Unit {0}
NoXBytes (a ∷ l) = ¬ (a ≡ 120) × NoXBytes l

-- from values to bytes
code-kept : (a b : Value) → Le a b → ¬ (code_of a ≡ 120) → code_of b ≡ code_of a
code-kept vx b h k = absurd (k refl)
code-kept v0 v0 h k = refl
code-kept v0 v1 h k = absurd h
code-kept v0 vx h k = absurd h
code-kept v1 v0 h k = absurd h
code-kept v1 v1 h k = refl
code-kept v1 vx h k = absurd h

pub kept-codes : (xs ys : List Value) → Les xs ys → KeptBytes (map code_of xs) (map code_of ys)
kept-codes [] [] h = tt
kept-codes [] (y ∷ ys) h = absurd h
kept-codes (x ∷ xs) [] h = absurd h
kept-codes (x ∷ xs) (y ∷ ys) h = (code-kept x y h.0, kept-codes xs ys h.1)

kept_append : (a b x y : List ℕ) → KeptBytes a b → KeptBytes x y → KeptBytes (a ++ x) (b ++ y)
kept_append [] [] x y h k = k
kept_append [] (b ∷ m) x y h k = absurd h
kept_append (a ∷ l) [] x y h k = absurd h
kept_append (a ∷ l) (b ∷ m) x y h k = (h.0, kept_append l m x y h.1 k)

-- the bytes of rows that keep what was 0 or 1
pub kept-rows : (xs ys : List Step) → Kept xs ys → KeptBytes (output_bytes xs) (output_bytes ys) × KeptBytes (next_bytes xs) (next_bytes ys)
kept-rows [] [] h = (tt, tt)
kept-rows [] (y ∷ ys) h = absurd h
kept-rows (x ∷ xs) [] h = absurd h
kept-rows (x ∷ xs) (y ∷ ys) h =
    let more = kept-rows xs ys h.5 in (
      kept_append (map code_of x.outputs) (map code_of y.outputs) (output_bytes xs) (output_bytes ys) (kept-codes x.outputs y.outputs h.1) more.0,
      kept_append (map code_of x.next) (map code_of y.next) (next_bytes xs) (next_bytes ys) (kept-codes x.next y.next h.4) more.1,
    )

-- from bytes to values
value-kept : (a b : ℕ) → (¬ (a ≡ 120) → b ≡ a) → Le (value_of a) (value_of b)
value-kept a b h = go (eqb a 120) refl
  where
    go : (t : Bool) → eqb a 120 ≡ t → Le (value_of a) (value_of b)
    go true e = subst (λ (x : ℕ). Le (value_of x) (value_of b)) (sym (eqb-true a 120 e)) tt
    go false e = le_of (ap value_of (sym (h (eqb-false a 120 e))))

pub les-values : (l m : List ℕ) → KeptBytes l m → Les (map value_of l) (map value_of m)
les-values [] [] h = tt
les-values [] (b ∷ m) h = absurd h
les-values (a ∷ l) [] h = absurd h
les-values (a ∷ l) (b ∷ m) h = (value-kept a b h.0, les-values l m h.1)

kept-take : (k : ℕ) (l m : List ℕ) → KeptBytes l m → KeptBytes (take k l) (take k m)
kept-take zero l m h = tt
kept-take (suc k) [] [] h = tt
kept-take (suc k) [] (b ∷ m) h = absurd h
kept-take (suc k) (a ∷ l) [] h = absurd h
kept-take (suc k) (a ∷ l) (b ∷ m) h = (h.0, kept-take k l m h.1)

kept-drop : (k : ℕ) (l m : List ℕ) → KeptBytes l m → KeptBytes (drop k l) (drop k m)
kept-drop zero l m h = h
kept-drop (suc k) [] [] h = tt
kept-drop (suc k) [] (b ∷ m) h = absurd h
kept-drop (suc k) (a ∷ l) [] h = absurd h
kept-drop (suc k) (a ∷ l) (b ∷ m) h = kept-drop k l m h.1

-- vectors that are laid row by row
pub replaced-rows : (k n : ℕ) (l m : List ℕ) → KeptBytes l m → Replaced (map (map value_of) (rows_of k n l)) (map (map value_of) (rows_of k n m))
replaced-rows k zero l m h = tt
replaced-rows k (suc n) l m h =
    (les-values (take k l) (take k m) (kept-take k l m h), replaced-rows k n (drop k l) (drop k m) (kept-drop k l m h))

pub sized_rows : (k n : ℕ) (l : List ℕ) → length l ≡ n * k → Sized k (map (map value_of) (rows_of k n l))
sized_rows k zero l h = tt
sized_rows k (suc n) l h =
    let size : length l ≡ n * k + k = h ∙ suc-mul n k in (
      length-map (take k l) value_of ∙ length-take-le k l (omega arith),
      sized_rows k n (drop k l) (length-drop k l ∙ omega arith),
    )

notx-byte : (a : ℕ) → is_code a ≡ true → ¬ (a ≡ 120) → NotX (value_of a)
notx-byte a c h = go (eqb a 48) (eqb a 49) (eqb a 120) refl c
  where
    go : (p q r : Bool) → eqb a 120 ≡ r → (p || (q || r)) ≡ true → NotX (cond p v0 (cond q v1 vx))
    go true q r e c = tt
    go false true r e c = tt
    go false false true e c = absurd (h (eqb-true a 120 e))
    go false false false e c = absurd (false≢true c)

pub no-x-values : (l : List ℕ) → all_codes l ≡ true → NoXBytes l → NoX (map value_of l)
no-x-values [] c h = tt
no-x-values (a ∷ l) c h = (notx-byte a (and_left (is_code a) _ c) h.0, no-x-values l (and_right (is_code a) _ c) h.1)

no-x-take : (k : ℕ) (l : List ℕ) → NoX (map value_of l) → NoX (map value_of (take k l))
no-x-take zero l h = tt
no-x-take (suc k) [] h = tt
no-x-take (suc k) (a ∷ l) h = (h.0, no-x-take k l h.1)

no-x-drop : (k : ℕ) (l : List ℕ) → NoX (map value_of l) → NoX (map value_of (drop k l))
no-x-drop zero l h = h
no-x-drop (suc k) [] h = tt
no-x-drop (suc k) (a ∷ l) h = no-x-drop k l h.1

pub no-x-rows : (k n : ℕ) (l : List ℕ) → NoX (map value_of l) → NoXs (map (map value_of) (rows_of k n l))
no-x-rows k zero l h = tt
no-x-rows k (suc n) l h = (no-x-take k l h, no-x-rows k n (drop k l) (no-x-drop k l h))
