-- A symbol line, and the marks of the entries that have a symbol.
use Rattle.std.specs.Prelude.{ℕ, ◌+◌, ◌≤◌, ◌<◌, ◌≡◌, Bool, true, false, cond, ◌&&◌, List, eqb, ltb, length, get_or, set}
use Rattle.plan.specs.declared.Counts.{Counts}
use Rattle.plan.specs.declared.Version.{Version}
use Rattle.plan.specs.declared.Version.TheVariants.{V2007, V19}
use Rattle.plan.specs.declared.Refusal.TheVariants.{BadSymbol}
use Rattle.plan.specs.Literals.{most}
use Rattle.plan.specs.Refusals.{Parse, got, refused, ◌then◌}
use Rattle.plan.specs.Bytes.{number, expect}
use Rattle.plan.specs.Tail.{Symbol, count_of, name_at}

-- whether a version has what came after 2007
abbrev pub later : Version → Bool
later V2007 = false
later V19 = true

-- a symbol line by 1 alone
abbrev pub symbol_line : List ℕ → ℕ → Parse Symbol
symbol_line file at =
    number file (at + 1) then λ entry next.
    expect file 32 next then λ _ next.
    name_at file next then λ name next.
    expect file 10 next then λ _ next.
    got (record { kind = get_or file at 0; entry = entry; name = name }) next

abbrev pub entry_of : Parse Symbol → Parse ℕ
entry_of p = p then λ s next. got s.entry next

-- the first word of a letter's list: inputs, then latches, outputs, bad states and constraints
abbrev pub first_word : Counts → ℕ → ℕ
first_word n b =
    cond (eqb b 105) 0
    (cond (eqb b 108) n.I
    (cond (eqb b 111) (n.I + n.L)
    (cond (eqb b 98) (n.I + n.L + n.O) (n.I + n.L + n.O + n.B))))

-- the entries of the five lists
abbrev pub entries : Counts → ℕ
entries n = n.I + n.L + n.O + n.B + n.C

abbrev pub word_of : Counts → Symbol → ℕ
word_of n s = first_word n s.kind + s.entry

-- the position is below the count of its list, and its word is 0
abbrev pub free : Counts → List ℕ → Symbol → Bool
free n marks s = ltb s.entry (count_of n s.kind) && eqb (get_or marks (word_of n s) 0) 0

-- a symbol line by 1, then 10, by the marks
abbrev pub marked_symbol : List ℕ → Counts → List ℕ → ℕ → Parse Symbol
marked_symbol file n marks at =
    symbol_line file at then λ s next. cond (free n marks s) (got s next) (refused (BadSymbol at))

abbrev pub marks_after : Counts → List ℕ → Parse Symbol → List ℕ
marks_after n marks (got s next) = set marks (word_of n s) 1
marks_after n marks (refused r) = marks

-- the marks have a word for each entry, and the counts are within the limits
pub record Holds (n : Counts) (marks : List ℕ) : Type 0 where
  pub most-I : n.I ≤ most
  pub most-L : n.L ≤ most
  pub most-O : n.O ≤ most
  pub most-B : n.B ≤ most
  pub most-C : n.C ≤ most
  pub words : entries n ≤ length marks

-- no entry is marked
abbrev pub Blank : Counts → List ℕ → Type 0
Blank n marks = (i : ℕ) → i < entries n → get_or marks i 0 ≡ 0
