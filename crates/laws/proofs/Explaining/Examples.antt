-- Outputs explained, computed on small circuits.
use Prim.Native.Nat.{ℕ}
use mathlib.Core.Path.{◌≡◌, refl}
use mathlib.Core.List.{List, [], ◌∷◌, map}
use lib.ListN.{get_or, replicate}
use Rattle.std.specs.Prelude.{Ok, Err}
use Rattle.plan.specs.declared.Version.TheVariants.{V19}
use Rattle.plan.specs.declared.Refusal.TheVariants.{BadVector, ShortBuffer, NotExplained}
use Rattle.plan.specs.Refusals.{got, ◌then◌}
use Rattle.plan.specs.Circuit.{seven}
use Rattle.plan.specs.Reading.{read_file}
use Rattle.plan.specs.Step.{value_of}
use Rattle.plan.specs.Programs.{bytes_of, lent_words, printed}
use Rattle.plan.specs.Explain.{marks_for, ExplainEntry, ExplainExit, explain}

-- the marks for output k of a file's circuit
abbrev marks : List ℕ → List ℕ → List ℕ → ℕ → List ℕ
marks file state ins k =
    printed (read_file V19 file lent_words then λ c start. got (marks_for c (map value_of state) (map value_of ins) (get_or c.outputs k 0)) start)

-- examples/selector.aag, where a needle follows the row in its border and else the pattern: left needle = (row and left) or (pattern and not
-- left), right needle = (not row and right) or (pattern and not right)
abbrev selector : List ℕ
selector = bytes_of "aag 10 3 1 2 6\n2\n4\n6\n8 9\n15\n21\n10 8 2\n12 6 3\n14 13 11\n16 9 4\n18 6 5\n20 19 17\n"

-- an odd row in both borders, without pattern. The left needle lifts: of 14 = 13 & 11, which is 0, the first side that is 0 is 11, so gate 10 = 8 &
-- 2 is blamed, and at 1 it blames both sides: the row and the left border
pub left-lifts : marks selector (bytes_of "1") (bytes_of "110") 0 ≡ bytes_of "1100"
left-lifts = refl

-- the right needle does not: 20 = 19 & 17 is 1 and blames both; 18 = 6 & 5 is 0 and blames the pattern first, 16 = 9 & 4 the row
pub right-rests : marks selector (bytes_of "1") (bytes_of "110") 1 ≡ bytes_of "1001"
right-rests = refl

-- where it is not known whether the left border is there, the right needle lifts by the row and the right border all the same
pub x-not-blamed : marks selector (bytes_of "0") (bytes_of "x11") 1 ≡ bytes_of "1010"
x-not-blamed = refl

-- an And of two inputs: at 1 both are blamed, at 0 the first right side that is 0, which is the larger one, also beside an x
abbrev both : List ℕ
both = bytes_of "aag 3 2 0 1 1\n2\n4\n6\n6 4 2\n"

pub blames-both : marks both [] (bytes_of "11") 0 ≡ bytes_of "11"
blames-both = refl

pub blames-first : marks both [] (bytes_of "00") 0 ≡ bytes_of "01"
blames-first = refl

pub blames-second : marks both [] (bytes_of "0x") 0 ≡ bytes_of "10"
blames-second = refl

-- an output that is a constant blames no place, and one that is a negated input blames it
pub constant-blames-none : marks (bytes_of "aag 1 1 0 2 0\n2\n1\n3\n") [] (bytes_of "x") 0 ≡ bytes_of "0"
constant-blames-none = refl

pub sign-plays-no-part : marks (bytes_of "aag 1 1 0 2 0\n2\n1\n3\n") [] (bytes_of "1") 1 ≡ bytes_of "1"
sign-plays-no-part = refl

-- the call on that And: with a buffer longer than needed, whose other bytes stay
abbrev asks : List ℕ → ℕ → List ℕ → ExplainEntry
asks ins k buffer = record {
  circuit = record {
    counts = record { M = 3; I = 2; L = 0; O = 1; A = 1; B = 0; C = 0 };
    tables = seven (2 ∷ 4 ∷ []) [] (6 ∷ []) (6 ∷ 4 ∷ 2 ∷ []) [] [] [];
    scratch = replicate 17 7;
  };
  state = [];
  inputs = ins;
  output = k;
  marks = buffer;
}

abbrev left : ExplainExit
left = explain (asks (bytes_of "01") 0 (bytes_of "???"))

pub marks-first : (left.answer ≡ Ok tt) × (left.marks ≡ bytes_of "10?") × (left.scratch ≡ replicate 17 0)
marks-first = (refl, refl, refl)

-- 12, then 17, then 11; after 11 the buffer is as it came
pub twelve-first : (explain (asks (bytes_of "0") 1 [])).answer ≡ Err (BadVector 2)
twelve-first = refl

pub not_there : (explain (asks (bytes_of "01") 1 [])).answer ≡ Err (NotExplained 1)
not_there = refl

pub x-refused : (explain (asks (bytes_of "x1") 0 [])).answer ≡ Err (NotExplained 2)
x-refused = refl

abbrev short : ExplainExit
short = explain (asks (bytes_of "01") 0 (bytes_of "?"))

pub room-last : (short.answer ≡ Err (ShortBuffer 2)) × (short.marks ≡ bytes_of "?")
room-last = (refl, refl)
