-- Text form and binary form: the header.
use Rattle.std.specs.Prelude.{ℕ, zero, ◌+◌, ◌-◌, ◌^◌, Bool, cond, ◌&&◌, ◌||◌, List, [], ◌∷◌, ◌++◌, eqb, leb, get_or, drop, Option, Some, None}
use Rattle.plan.specs.declared.Counts.{Counts}
use Rattle.plan.specs.declared.Refusal.TheVariants.{WrongByte, LargeCount, WrongSum, Justice}
use Rattle.plan.specs.declared.Version.{Version}
use Rattle.plan.specs.declared.Version.TheVariants.{V2007, V19}
use Rattle.plan.specs.Literals.{most}
use Rattle.plan.specs.Refusals.{Parse, got, refused, ◌then◌, unless}
use Rattle.plan.specs.Circuit.{words_with, scratch_to_work}
use Rattle.plan.specs.Bytes.{expect, Placed, numbers, values, line_of, without_zeros}

pub data Form : Type 0 where
  text binary : Form

-- the second letter: "aag", "aig"
abbrev pub letter_of : Form → ℕ
letter_of text = 97
letter_of binary = 105

abbrev pub letter : List ℕ → ℕ → Parse Form
letter file at =
    cond (eqb (get_or file at 0) 97) (got text (at + 1))
    (cond (eqb (get_or file at 0) 105) (got binary (at + 1)) (refused (WrongByte at)))

-- how many counts may follow A (1.9: B, C, J, F), and how many resets the literals of a latch (1.9: one)
abbrev pub more_counts : Version → ℕ
more_counts V2007 = 0
more_counts V19 = 4

abbrev pub more_resets : Version → ℕ
more_resets V2007 = 0
more_resets V19 = 1

-- M, I, L, O, A, B, C, those left off being 0
abbrev pub counts_from : List ℕ → Counts
counts_from l = record {
  M = get_or l 0 0;
  I = get_or l 1 0;
  L = get_or l 2 0;
  O = get_or l 3 0;
  A = get_or l 4 0;
  B = get_or l 5 0;
  C = get_or l 6 0;
}

abbrev pub list_of : Counts → List ℕ
list_of n = n.M ∷ n.I ∷ n.L ∷ n.O ∷ n.A ∷ n.B ∷ n.C ∷ []

-- 2: the first count over the limit
abbrev pub over : List Placed → Option ℕ
over [] = None
over (x ∷ xs) = cond (leb x.value most) (over xs) (Some x.place)

-- 21: the first of J and F above 0
abbrev pub above0 : List Placed → Option ℕ
above0 [] = None
above0 (x ∷ xs) = cond (eqb x.value 0) (above0 xs) (Some x.place)

-- 3: I + L + A is in text at most M, in binary equal
abbrev pub adds : Form → Counts → Bool
adds text n = leb (n.I + n.L + n.A) n.M
adds binary n = eqb (n.I + n.L + n.A) n.M

pub record Head : Type 0 where
  pub form : Form
  pub counts : Counts

-- the whole line by 1, then 2, then 21, then 3
abbrev pub header : Version → List ℕ → ℕ → Parse Head
header v file at =
    expect file 97 at then λ _ at.
    letter file at then λ form at.
    expect file 103 at then λ _ at.
    expect file 32 at then λ _ at.
    numbers file 5 (5 + more_counts v) at then λ xs next.
    unless (over xs) LargeCount
    (unless (above0 (drop 7 xs)) Justice
    (cond (adds form (counts_from (values xs))) (got (record { form = form; counts = counts_from (values xs) }) next)
    (refused (WrongSum 0))))

-- the same, written: all counts, of which J and F are 0; the shortest line of them; the header of a line
abbrev pub all_counts : Counts → List ℕ
all_counts n = list_of n ++ (zero ∷ zero ∷ [])

abbrev pub short_counts : Counts → List ℕ
short_counts n = without_zeros 5 (all_counts n)

abbrev pub header_of : Form → List ℕ → List ℕ
header_of form row = 97 ∷ letter_of form ∷ 103 ∷ 32 ∷ line_of row

-- the words of table 5 to read a file: in binary one for the symbol of each entry, and none to mark variables in,
-- as 6, 7 and 8 can't be met there
abbrev pub scratch_to_read : Form → Counts → ℕ
scratch_to_read text n = scratch_to_work n
scratch_to_read binary n = n.I + n.L + n.O + n.B + n.C

abbrev pub words_to_read : Form → Counts → List ℕ
words_to_read form n = words_with (scratch_to_read form n) n

-- the form that the second letter names
abbrev pub form_in : List ℕ → Form
form_in file = cond (eqb (get_or file 1 0) 105) binary text

-- the desk question: the words that table t needs to read the file, or 2 ^ 64 - 1
abbrev pub words_by : ℕ → Parse Head → ℕ
words_by t (got h next) = cond ((leb 1 t && leb t 5) || (leb 7 t && leb t 9))
    (get_or (words_to_read h.form h.counts) (t - 1) 0) (2 ^ 64 - 1)
words_by t (refused r) = 2 ^ 64 - 1

abbrev pub words_for : List ℕ → ℕ → ℕ
words_for file t = words_by t (header V19 file 0)
