-- The header in its parts: the first four bytes, then the counts.
use Rattle.std.specs.Prelude.{ℕ, ◌+◌, ◌-◌, ◌^◌, ◌≤◌, ◌<◌, Bool, true, false, cond, ◌&&◌, ◌||◌, List, eqb, leb, get_or, drop, Result, Ok, Err}
use Rattle.plan.specs.declared.Counts.{Counts}
use Rattle.plan.specs.declared.Version.{Version}
use Rattle.plan.specs.declared.Refusal.{Refusal}
use Rattle.plan.specs.declared.Refusal.TheVariants.{WrongByte, LargeCount, WrongSum, Justice}
use Rattle.plan.specs.Refusals.{Parse, got, refused, ◌then◌, unless}
use Rattle.plan.specs.Bytes.{numbers, values}
use Rattle.plan.specs.Outcome.{form_of}
use Rattle.plan.specs.Header.{more_counts, Form, counts_from, over, above0, adds, Head, words_to_read}

-- "g " after the letter of a form
abbrev pub magic_end : List ℕ → Bool → Result Bool Refusal
magic_end file is_binary =
    cond (eqb (get_or file 2 0) 103) (cond (eqb (get_or file 3 0) 32) (Ok is_binary) (Err (WrongByte 3))) (Err (WrongByte 2))

-- "aag " or "aig ", whether it is binary; or the first byte that is not so
abbrev pub magic : List ℕ → Result Bool Refusal
magic file =
    cond (eqb (get_or file 0 0) 97)
    (cond (eqb (get_or file 1 0) 97) (magic_end file false)
    (cond (eqb (get_or file 1 0) 105) (magic_end file true) (Err (WrongByte 1))))
    (Err (WrongByte 0))

-- the counts, from offset 4 on: by 1, then 2, then 21, then 3
abbrev pub counted : Version → List ℕ → Form → Parse Head
counted v file form =
    numbers file 5 (5 + more_counts v) 4 then λ xs next.
    unless (over xs) LargeCount
    (unless (above0 (drop 7 xs)) Justice
    (cond (adds form (counts_from (values xs))) (got (record { form = form; counts = counts_from (values xs) }) next)
    (refused (WrongSum 0))))

abbrev pub headed_from : Version → List ℕ → Result Bool Refusal → Parse Head
headed_from v file (Ok is_binary) = counted v file (form_of is_binary)
headed_from v file (Err r) = refused r

-- the first of nine words, from one on, that is above a limit
pub record Above (words : List ℕ) (from limit r : ℕ) : Type 0 where
  pub within : r < 9
  pub from_on : from ≤ r
  pub before : (k : ℕ) → from ≤ k → k < r → get_or words k 0 ≤ limit
  pub found : limit < get_or words r 0

-- none of nine words, from one on, is above a limit
abbrev pub NoneAbove : List ℕ → ℕ → ℕ → Type 0
NoneAbove words from limit = (k : ℕ) → from ≤ k → k < 9 → get_or words k 0 ≤ limit

-- I + L + A against M
abbrev pub sums : Bool → ℕ → ℕ → Bool
sums true sum m = eqb sum m
sums false sum m = leb sum m

-- the words of table t
abbrev pub words_of : Form → Counts → ℕ → ℕ
words_of form n t =
    cond ((leb 1 t && leb t 5) || (leb 7 t && leb t 9)) (get_or (words_to_read form n) (t - 1) 0) (2 ^ 64 - 1)
