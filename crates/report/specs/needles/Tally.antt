-- A needle's four words while a run goes on: the fourth holds the changes, and in its last two bits the word of the
-- last value, 0 for none.
use Rattle.std.specs.Prelude.{ℕ, ◌+◌, ◌*◌, ◌/◌, ◌%◌, ◌<◌, ◌≤◌, cond, List, [], ◌∷◌, eqb, length, get_or, take, drop}
use Rattle.plan.specs.Step.{Value, v0, v1, vx}
use Rattle.step.specs.values.Words.{word}
use Rattle.plan.specs.Report.{times, changes, in_turn}

abbrev pub last_after : Value → List Value → Value
last_after a [] = a
last_after a (b ∷ l) = last_after b l

abbrev pub last_word : List Value → ℕ
last_word [] = 0
last_word (a ∷ l) = word (last_after a l)

-- by the values so far
abbrev pub kept : List Value → List ℕ
kept l = times v0 l ∷ times v1 l ∷ times vx l ∷ (4 * changes l + last_word l) ∷ []

-- whether a value's word differs from the last one's: 1 or 0
abbrev pub differs : ℕ → ℕ → ℕ
differs last w = cond (eqb last 0) 0 (cond (eqb last w) 0 1)

-- the four words after a value's word w
abbrev pub counted : List ℕ → ℕ → List ℕ
counted row w =
    (get_or row 0 0 + cond (eqb w 1) 1 0)
    ∷ (get_or row 1 0 + cond (eqb w 2) 1 0)
    ∷ (get_or row 2 0 + cond (eqb w 3) 1 0)
    ∷ ((get_or row 3 0 / 4 + differs (get_or row 3 0 % 4) w) * 4 + w)
    ∷ []

-- and after the last, where the changes alone stay
abbrev pub finished : List ℕ → List ℕ
finished row = get_or row 0 0 ∷ get_or row 1 0 ∷ get_or row 2 0 ∷ (get_or row 3 0 / 4) ∷ []

-- row i of four words, from a position on
abbrev pub row_from : List ℕ → ℕ → ℕ → List ℕ
row_from six at i = take 4 (drop (at + 4 * i) six)

-- a row with room for one value more, and a value's word
pub record Counts1 (w at : ℕ) (six : List ℕ) : Type 0 where
  pub inside : at + 4 ≤ length six
  pub some : 1 ≤ w
  pub coded : w ≤ 3
  pub few : (j : ℕ) → j < 4 → get_or six (at + j) 0 < 1048576

-- n rows from `at` on, and the words of n values from `from` on
pub record CountsAll (t : List ℕ) (from n at : ℕ) (six : List ℕ) : Type 0 where
  pub rows_inside : at + 4 * n ≤ length six
  pub words_inside : from + n ≤ length t
  pub some : (i : ℕ) → i < n → 1 ≤ get_or t (from + i) 0
  pub coded : (i : ℕ) → i < n → get_or t (from + i) 0 ≤ 3
  pub few : (i j : ℕ) → i < n → j < 4 → get_or six (at + (4 * i + j)) 0 < 1048576

abbrev pub counted_all : List ℕ → ℕ → ℕ → ℕ → List ℕ → List ℕ
counted_all t from n at six = in_turn (λ i. counted (row_from six at i) (get_or t (from + i) 0)) n

abbrev pub finished_all : ℕ → List ℕ → List ℕ
finished_all n six = in_turn (λ i. finished (row_from six 0 i)) n
