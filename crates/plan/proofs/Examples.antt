-- The definitions compute: the AIGER report's table of differences, its circuits, the paper's cases that are not marked P, and the points
-- that docs/DECISIONS.md decides. A slip in a definition shows here, in its own crate.
use Prim.Native.Nat.{ℕ, ◌+◌, ◌-◌, ◌^◌}
use mathlib.Core.Path.{◌≡◌, refl}
use mathlib.Core.Bool.{cond}
use mathlib.Core.List.{List, [], ◌∷◌, ◌++◌, map}
use lib.ListN.{drop, replicate}
use Rattle.std.specs.Prelude.{Ok, Err, Some, None}
use Rattle.plan.specs.declared.Refusal.TheVariants.{LongDifference}
use Rattle.plan.specs.declared.Counts.{Counts}
use Rattle.plan.specs.declared.Version.TheVariants.{V2007, V19}
use Rattle.plan.specs.declared.Version.{Version}
use Rattle.plan.specs.Refusals.{Parse, got, ◌then◌}
use Rattle.plan.specs.Circuit.{Circuit, Tables}
use Rattle.plan.specs.Header.{words_for}
use Rattle.plan.specs.Difference.{difference_at, groups_of}
use Rattle.plan.specs.Reading.{read_file, read_to_work}
use Rattle.plan.specs.Given.{Given}
use Rattle.plan.specs.Step.{witnessed}
use Rattle.plan.specs.Outcome.{checked_values, check}
use Rattle.plan.specs.Programs.{bytes_of, lent_words, printed, converter, reducer, tracer}

-- 001, section 12: the bytes of a number, and the number of the bytes, if they are three at most
abbrev encodings : List (ℕ × List ℕ)
encodings =
    (0, 0x00 ∷ [])
    ∷ (1, 0x01 ∷ [])
    ∷ (2 ^ 7 - 1, 0x7f ∷ [])
    ∷ (2 ^ 7, 0x80 ∷ 0x01 ∷ [])
    ∷ (2 ^ 8 + 2, 0x82 ∷ 0x02 ∷ [])
    ∷ (2 ^ 14 - 1, 0xff ∷ 0x7f ∷ [])
    ∷ (2 ^ 14 + 3, 0x83 ∷ 0x80 ∷ 0x01 ∷ [])
    ∷ (2 ^ 28 - 1, 0xff ∷ 0xff ∷ 0xff ∷ 0x7f ∷ [])
    ∷ (2 ^ 28 + 7, 0x87 ∷ 0x80 ∷ 0x80 ∷ 0x80 ∷ 0x01 ∷ [])
    ∷ []

encodings-hold : map (λ (x : ℕ × List ℕ). groups_of x.0) encodings ≡ map (λ (x : ℕ × List ℕ). x.1) encodings
encodings-hold = refl

decodings-hold : map (λ (x : ℕ × List ℕ). difference_at x.1 0) encodings
    ≡ (Ok (0, 1) ∷ Ok (1, 1) ∷ Ok (127, 1) ∷ Ok (128, 2) ∷ Ok (258, 2) ∷ Ok (16383, 2) ∷ Ok (16387, 3) ∷ Err (LongDifference 0) ∷ Err (LongDifference 0) ∷ [])
decodings-hold = refl

-- a file: its tail if it is accepted, or the refusal's line
abbrev tail_read_as : Version → List ℕ → List ℕ
tail_read_as v file = printed (read_file v file lent_words then λ c start. got (drop start file) start)

abbrev tail_read : List ℕ → List ℕ
tail_read file = tail_read_as V19 file

abbrev buffer : List ℕ
buffer = bytes_of "aag 1 1 0 1 0\n2\n2\n"

abbrev watched : List ℕ
watched = bytes_of "aag 1 1 0 0 0 1 1\n2\n3\n2\n"

abbrev gate : List ℕ
gate = bytes_of "aig 1 0 0 0 1\n"

abbrev files : List (List ℕ × List ℕ)
files =
    (bytes_of "aag 0 0 0 0 0", bytes_of "refused 1 at 13\n")
    ∷ ([], bytes_of "refused 1 at 0\n")
    ∷ (bytes_of "aag 1048576 0 0 0 0\n", bytes_of "refused 2 at 4\n")
    ∷ (bytes_of "aag 1 1 1 0 0\n", bytes_of "refused 3 at 0\n")
    ∷ (bytes_of "aag 1 0 1 0 0\n2 2\n", [])
    ∷ (gate ++ (0x00 ∷ 0x00 ∷ []), bytes_of "refused 9 at 14\n")
    ∷ (gate ++ (0x82 ∷ 0x00 ∷ []), bytes_of "refused 16 at 14\n")
    ∷ (gate ++ (0x02 ∷ 0x01 ∷ []), bytes_of "refused 9 at 15\n")
    ∷ (gate ++ (0x02 ∷ []), bytes_of "refused 1 at 15\n")
    ∷ (buffer ++ bytes_of "i1 p\n", bytes_of "refused 10 at 18\n")
    ∷ (buffer ++ bytes_of "i0 p\ni0 q\n", bytes_of "refused 10 at 23\n")
    ∷ (buffer ++ bytes_of "c", bytes_of "refused 1 at 19\n")
    -- the points decided: a difference is judged before the next; one or two bytes and the end; three bytes with the high bit
    ∷ (gate ++ (0x00 ∷ []), bytes_of "refused 9 at 14\n")
    ∷ (gate ++ (0x03 ∷ 0x82 ∷ 0x00 ∷ []), bytes_of "refused 9 at 14\n")
    ∷ (gate ++ (0x02 ∷ 0x80 ∷ 0x00 ∷ []), bytes_of "refused 16 at 15\n")
    ∷ (gate ++ (0x82 ∷ []), bytes_of "refused 1 at 15\n")
    ∷ (gate ++ (0x81 ∷ 0x81 ∷ []), bytes_of "refused 1 at 16\n")
    ∷ (gate ++ (0x81 ∷ 0x81 ∷ 0x81 ∷ []), bytes_of "refused 16 at 14\n")
    -- zero or too large, and badly written: reported for its writing
    ∷ (gate ++ (0x80 ∷ 0x80 ∷ 0x00 ∷ []), bytes_of "refused 16 at 14\n")
    ∷ (gate ++ (0xff ∷ 0x00 ∷ []), bytes_of "refused 16 at 14\n")
    ∷ (gate ++ (0xff ∷ 0x01 ∷ []), bytes_of "refused 9 at 14\n")
    -- "00" is wrong at its second digit; a number has no upper length, and a wrong byte later on its line wins
    ∷ (bytes_of "aag 00 0 0 0 0\n", bytes_of "refused 1 at 5\n")
    ∷ (bytes_of "aag 9999999999999999999999999 0 0 0 x\n", bytes_of "refused 1 at 36\n")
    ∷ (bytes_of "aag 99999999999999999999999999999999999 0 0 0 0\n", bytes_of "refused 2 at 4\n")
    ∷ (buffer ++ bytes_of "i00 p\n", bytes_of "refused 1 at 20\n")
    -- symbols and comments
    ∷ (buffer ++ bytes_of "l0 x\n", bytes_of "refused 10 at 18\n")
    ∷ (buffer ++ bytes_of "i0 p\no0 \nc\nany\n", bytes_of "i0 p\no0 \nc\nany\n")
    ∷ (buffer ++ bytes_of "i0 p\no0 \nc\nany", bytes_of "refused 1 at 32\n")
    ∷ (buffer ++ bytes_of "x", bytes_of "refused 1 at 18\n")
    -- a line by 1, then 5, then 6
    ∷ (bytes_of "aag 2 1 0 0 1\n2\n2 9 x\n", bytes_of "refused 1 at 20\n")
    ∷ (bytes_of "aag 2 1 0 0 1\n2\n2 9 0\n", bytes_of "refused 5 at 18\n")
    ∷ (bytes_of "aag 2 1 0 0 1\n2\n2 3 0\n", bytes_of "refused 6 at 16\n")
    ∷ (bytes_of "aag 1 1 0 0 0\n3\n", bytes_of "refused 5 at 14\n")
    ∷ (bytes_of "aag 1 1 0 0 0\n0\n", bytes_of "refused 5 at 14\n")
    -- 7 names the least, 8 the first gate on or above a cycle
    ∷ (bytes_of "aag 4 0 0 2 0\n8\n4\n", bytes_of "refused 7 at 2\n")
    ∷ (bytes_of "aag 4 0 0 0 4\n8 1 1\n6 8 2\n2 4 1\n4 2 1\n", bytes_of "refused 8 at 3\n")
    -- I + L + A below M: text only
    ∷ (bytes_of "aag 2 1 0 0 0\n2\n", [])
    ∷ (bytes_of "aig 2 1 0 0 0\n", bytes_of "refused 3 at 0\n")
    ∷ (bytes_of "aag 1 0 0 0 0 \n", bytes_of "refused 1 at 14\n")
    ∷ (bytes_of "aig 1 0 1 1 0\n3\n4\n", bytes_of "refused 5 at 16\n")
    ∷ (bytes_of "abg", bytes_of "refused 1 at 1\n")
    ∷ []

files-hold : map (λ (x : List ℕ × List ℕ). tail_read x.0) files ≡ map (λ (x : List ℕ × List ℕ). x.1) files
files-hold = refl

-- 1.9: the header may go on to F, and ends there; 2 over all of it, then 21, then 3
abbrev files19 : List (List ℕ × List ℕ)
files19 =
    (bytes_of "aag 0 0 0 0 0 0\n", [])
    ∷ (bytes_of "aag 0 0 0 0 0 0 0 0 0\n", [])
    ∷ (bytes_of "aag 0 0 0 0 0 0 0 0 0 0\n", bytes_of "refused 1 at 21\n")
    ∷ (bytes_of "aag 0 0 0 0 0 0 0 1\n", bytes_of "refused 21 at 18\n")
    ∷ (bytes_of "aag 0 0 0 0 0 0 0 0 2\n", bytes_of "refused 21 at 20\n")
    ∷ (bytes_of "aag 0 1 0 0 0 0 0 1\n", bytes_of "refused 21 at 18\n")
    ∷ (bytes_of "aag 0 0 0 0 0 0 0 1 1048576\n", bytes_of "refused 2 at 20\n")
    ∷ (bytes_of "aag 0 1 0 0 0 0 0 0\n", bytes_of "refused 3 at 0\n")
    -- a reset is 0, 1 or the latch's own literal; 5 from left to right, then 6
    ∷ (bytes_of "aag 1 0 1 0 0\n2 3 0\n", [])
    ∷ (bytes_of "aag 1 0 1 0 0\n2 3 1\n", [])
    ∷ (bytes_of "aag 1 0 1 0 0\n2 3 2\n", [])
    ∷ (bytes_of "aag 1 0 1 0 0\n2 3 3\n", bytes_of "refused 5 at 18\n")
    ∷ (bytes_of "aag 1 0 1 0 0\n2 9 9\n", bytes_of "refused 5 at 16\n")
    ∷ (bytes_of "aag 1 0 1 0 0\n2 3 \n", bytes_of "refused 1 at 18\n")
    ∷ (bytes_of "aag 1 0 1 0 0\n2 3 0 0\n", bytes_of "refused 1 at 19\n")
    ∷ (bytes_of "aag 2 0 2 0 0\n2 3\n2 3 4\n", bytes_of "refused 5 at 22\n")
    ∷ (bytes_of "aag 2 0 2 0 0\n2 3\n2 3 2\n", bytes_of "refused 6 at 18\n")
    ∷ (bytes_of "aig 2 1 1 0 0\n3 4\n", [])
    ∷ (bytes_of "aig 2 1 1 0 0\n3 2\n", bytes_of "refused 5 at 16\n")
    -- bad states and constraints follow the outputs
    ∷ (bytes_of "aag 1 1 0 0 0 1\n2\n4\n", bytes_of "refused 5 at 18\n")
    ∷ (bytes_of "aag 2 1 0 0 0 0 1\n2\n4\n", bytes_of "refused 7 at 2\n")
    ∷ (bytes_of "aig 1 1 0 0 0 1 1\n3\n", bytes_of "refused 1 at 20\n")
    -- their symbols; "c" with a new line opens the comment
    ∷ (watched ++ bytes_of "c0 y\nb0 x\nc\nany\n", bytes_of "c0 y\nb0 x\nc\nany\n")
    ∷ (watched ++ bytes_of "b1 x\n", bytes_of "refused 10 at 24\n")
    ∷ (watched ++ bytes_of "c0 y\nc0 z\n", bytes_of "refused 10 at 29\n")
    ∷ (watched ++ bytes_of "c", bytes_of "refused 1 at 25\n")
    ∷ (watched ++ bytes_of "c y\n", bytes_of "refused 1 at 25\n")
    ∷ (watched ++ bytes_of "j0 y\n", bytes_of "refused 1 at 24\n")
    ∷ (buffer ++ bytes_of "c0 y\n", bytes_of "refused 10 at 18\n")
    ∷ []

files19-hold : map (λ (x : List ℕ × List ℕ). tail_read x.0) files19 ≡ map (λ (x : List ℕ × List ℕ). x.1) files19
files19-hold = refl

-- the reader of 2007 knows none of it
abbrev files2007 : List (List ℕ × List ℕ)
files2007 =
    (bytes_of "aag 1 0 0 0 0 \n", bytes_of "refused 1 at 13\n")
    ∷ (bytes_of "aag 0 0 0 0 0 0\n", bytes_of "refused 1 at 13\n")
    ∷ (bytes_of "aag 1 0 1 0 0\n2 3 0\n", bytes_of "refused 1 at 17\n")
    ∷ (buffer ++ bytes_of "b0 x\n", bytes_of "refused 1 at 18\n")
    ∷ (buffer ++ bytes_of "c0 x\n", bytes_of "refused 1 at 19\n")
    ∷ (buffer ++ bytes_of "i0 p\nc\nany\n", bytes_of "i0 p\nc\nany\n")
    ∷ []

files2007-hold : map (λ (x : List ℕ × List ℕ). tail_read_as V2007 x.0) files2007 ≡ map (λ (x : List ℕ × List ℕ). x.1) files2007
files2007-hold = refl

-- the desk question: tables 0 to 6 of the toggle's header, and a header that is refused
desk-holds : map (words_for (bytes_of "aag 7 2 1 2 4\n")) (0 ∷ 1 ∷ 2 ∷ 3 ∷ 4 ∷ 5 ∷ 6 ∷ [])
    ≡ (18446744073709551615 ∷ 2 ∷ 2 ∷ 2 ∷ 12 ∷ 34 ∷ 18446744073709551615 ∷ [])
desk-holds = refl

desk-refuses : words_for (bytes_of "aag 7 2 1 2 5\n") 1 ≡ 18446744073709551615
desk-refuses = refl

desk19-holds : map (words_for (bytes_of "aag 7 2 1 2 4 3 1\n")) (5 ∷ 6 ∷ 7 ∷ 8 ∷ 9 ∷ 10 ∷ [])
    ≡ (38 ∷ 18446744073709551615 ∷ 1 ∷ 3 ∷ 1 ∷ 18446744073709551615 ∷ [])
desk19-holds = refl

desk19-refuses : words_for (bytes_of "aag 7 2 1 2 4 3 1 1\n") 1 ≡ 18446744073709551615
desk19-refuses = refl

-- to read a binary file table 5 needs a word for each input, latch, output, bad state and constraint
desk-binary-holds : map (λ (file : List ℕ). words_for file 5)
    (bytes_of "aig 7 2 1 2 4\n" ∷ bytes_of "aig 7 2 1 2 4 3 1\n" ∷ bytes_of "aig 1 0 0 0 1\n" ∷ []) ≡ (5 ∷ 9 ∷ 0 ∷ [])
desk-binary-holds = refl

-- exactly enough, one too few, and enough to read only: then 4 at 5 comes after all that a reader checks
abbrev lent_five : ℕ → List ℕ
lent_five n = 2 ∷ 2 ∷ 2 ∷ 12 ∷ n ∷ 0 ∷ 1 ∷ []

abbrev toggle_in : List ℕ
toggle_in = bytes_of "aig 7 2 1 2 4\n14\n6\n7\n" ++ (2 ∷ 4 ∷ 3 ∷ 4 ∷ 1 ∷ 2 ∷ 2 ∷ 8 ∷ [])

abbrev rest_of : List ℕ → Parse Circuit → List ℕ
rest_of file p = printed (p then λ c start. got (drop start file) start)

abbrev fives : List (List ℕ × List ℕ)
fives =
    (rest_of toggle_in (read_file V19 toggle_in (lent_five 5)), [])
    ∷ (rest_of toggle_in (read_file V2007 toggle_in (lent_five 5)), [])
    ∷ (rest_of toggle_in (read_file V19 toggle_in (lent_five 4)), bytes_of "refused 4 at 5\n")
    ∷ (rest_of toggle_in (read_to_work toggle_in (lent_five 34) (lent_five 34)), [])
    ∷ (rest_of toggle_in (read_to_work toggle_in (lent_five 33) (lent_five 33)), bytes_of "refused 4 at 5\n")
    ∷ (rest_of toggle_in (read_to_work (toggle_in ++ bytes_of "i2 x\n") (lent_five 5) (lent_five 5)), bytes_of "refused 10 at 29\n")
    ∷ []

fives-hold : map (λ (x : List ℕ × List ℕ). x.0) fives ≡ map (λ (x : List ℕ × List ℕ). x.1) fives
fives-hold = refl

-- 4 names the least table that is too short
short-holds : printed (read_file V19 buffer (100 ∷ 0 ∷ 0 ∷ 100 ∷ 0 ∷ []) then λ c start. got [] start) ≡ bytes_of "refused 4 at 3\n"
short-holds = refl

-- given tables: M, I, L, O, A, tables 1 to 4 and scratch; number and place
abbrev counts : ℕ → ℕ → ℕ → ℕ → ℕ → Counts
counts m i l o a = record { M = m; I = i; L = l; O = o; A = a; B = 0; C = 0 }

abbrev tables : List ℕ → List ℕ → List ℕ → List ℕ → Tables
tables i l o a = record { inputs = i; latches = l; outputs = o; gates = a; resets = []; bads = []; constraints = [] }

abbrev words : ℕ → List ℕ
words n = replicate n 7

abbrev givens : List (Given × List ℕ)
givens =
    (record { counts = counts 3 2 0 1 1; tables = tables (2 ∷ 4 ∷ []) [] (6 ∷ []) (6 ∷ 2 ∷ 4 ∷ []); scratch = words 17 }, 0 ∷ 0 ∷ [])
    ∷ (record { counts = counts 3 2 1048576 1 1; tables = tables [] [] [] []; scratch = [] }, 2 ∷ 3 ∷ [])
    ∷ (record { counts = counts 3 2 1 1 1; tables = tables [] [] [] []; scratch = [] }, 3 ∷ 0 ∷ [])
    ∷ (record { counts = counts 3 2 0 1 1; tables = tables (2 ∷ 4 ∷ []) [] (6 ∷ []) (6 ∷ 2 ∷ 4 ∷ []); scratch = words 16 }, 4 ∷ 5 ∷ [])
    ∷ (record { counts = counts 3 2 0 1 1; tables = tables (2 ∷ 2 ∷ []) [] (8 ∷ []) (6 ∷ 2 ∷ 9 ∷ []); scratch = words 17 }, 5 ∷ 3 ∷ [])
    ∷ (record { counts = counts 3 2 0 1 1; tables = tables (2 ∷ 2 ∷ []) [] (6 ∷ []) (6 ∷ 2 ∷ 4 ∷ []); scratch = words 17 }, 6 ∷ 1 ∷ [])
    ∷ (record { counts = counts 3 2 0 1 1; tables = tables (2 ∷ 4 ∷ []) [] (6 ∷ []) (2 ∷ 2 ∷ 4 ∷ []); scratch = words 17 }, 6 ∷ 4 ∷ [])
    ∷ (record { counts = counts 3 1 0 1 1; tables = tables (2 ∷ []) [] (6 ∷ []) (6 ∷ 2 ∷ 4 ∷ []); scratch = words 17 }, 7 ∷ 2 ∷ [])
    ∷ (record { counts = counts 3 1 0 1 1; tables = tables (2 ∷ []) [] (6 ∷ []) (6 ∷ 2 ∷ 6 ∷ []); scratch = words 17 }, 8 ∷ 3 ∷ [])
    ∷ []

givens-hold : map (λ (x : Given × List ℕ). checked_values (check x.0).answer) givens ≡ map (λ (x : Given × List ℕ). x.1) givens
givens-hold = refl

-- a latch, a bad state and a constraint: L, B, C, tables 2, 7, 8, 9 and scratch
abbrev latched : ℕ → ℕ → ℕ → List ℕ → List ℕ → List ℕ → List ℕ → ℕ → Given
latched l b c lats rs bs cs n = record {
  counts = record { M = 1; I = 0; L = l; O = 0; A = 0; B = b; C = c };
  tables = record { inputs = []; latches = lats; outputs = []; gates = []; resets = rs; bads = bs; constraints = cs };
  scratch = words n;
}

abbrev givens19 : List (Given × List ℕ)
givens19 =
    (latched 1 1 1 (2 ∷ 3 ∷ []) (2 ∷ []) (2 ∷ []) (3 ∷ []) 10, 0 ∷ 0 ∷ [])
    ∷ (latched 1 1048576 1 [] [] [] [] 0, 2 ∷ 6 ∷ [])
    ∷ (latched 1 1 1048576 [] [] [] [] 0, 2 ∷ 7 ∷ [])
    ∷ (latched 1 1 1 (2 ∷ 3 ∷ []) (2 ∷ []) (2 ∷ []) (3 ∷ []) 9, 4 ∷ 5 ∷ [])
    ∷ (latched 1 1 1 (2 ∷ 3 ∷ []) [] (2 ∷ []) [] 10, 4 ∷ 7 ∷ [])
    ∷ (latched 1 1 1 (2 ∷ 3 ∷ []) (2 ∷ []) (2 ∷ []) [] 10, 4 ∷ 9 ∷ [])
    ∷ (latched 1 1 1 (2 ∷ 3 ∷ []) (3 ∷ []) (9 ∷ []) (3 ∷ []) 10, 5 ∷ 7 ∷ [])
    ∷ (latched 1 1 1 (2 ∷ 3 ∷ []) (1 ∷ []) (9 ∷ []) (9 ∷ []) 10, 5 ∷ 8 ∷ [])
    ∷ (latched 1 1 1 (2 ∷ 3 ∷ []) (0 ∷ []) (2 ∷ []) (4 ∷ []) 10, 5 ∷ 9 ∷ [])
    ∷ (latched 0 1 0 [] [] (2 ∷ []) [] 10, 7 ∷ 1 ∷ [])
    ∷ []

givens19-hold : map (λ (x : Given × List ℕ). checked_values (check x.0).answer) givens19 ≡ map (λ (x : Given × List ℕ). x.1) givens19
givens19-hold = refl

-- a bad state counts only while every constraint has been 1
abbrev asked : ℕ → List ℕ → List ℕ
asked n bytes =
    printed (read_file V19 (bytes_of "aag 2 1 1 0 0 1 1\n2\n4 5 1\n4\n2\n") lent_words then λ c start.
    got (cond (witnessed c n bytes) (bytes_of "yes") (bytes_of "no")) start)

abbrev questions : List (List ℕ × List ℕ)
questions =
    (asked 0 [], bytes_of "no")
    ∷ (asked 1 (bytes_of "1"), bytes_of "yes")
    ∷ (asked 1 (bytes_of "0"), bytes_of "no")
    ∷ (asked 1 (bytes_of "x"), bytes_of "no")
    ∷ (asked 3 (bytes_of "011"), bytes_of "no")
    ∷ []

questions-hold : map (λ (x : List ℕ × List ℕ). x.0) questions ≡ map (λ (x : List ℕ × List ℕ). x.1) questions
questions-hold = refl

-- the AIGER report's toggle: the tracer's four lines, and both ways through the converter
abbrev toggle : List ℕ
toggle = bytes_of "aag 7 2 1 2 4\n2\n4\n6 8\n6\n7\n8 4 10\n10 13 15\n12 2 6\n14 3 7\ni0 enable\nc\nany\n"

tracer-holds : tracer (Some toggle) (Some (bytes_of "11\n11\nx1\n10\n")) ≡ bytes_of "0 11 01 1\n1 11 10 0\n0 x1 01 x\nx 10 xx 0\n"
tracer-holds = refl

abbrev programs : List (List ℕ × List ℕ)
programs =
    (tracer (Some toggle) None, bytes_of "refused 14 at 0\n")
    ∷ (tracer None None, bytes_of "refused 14 at 0\n")
    ∷ (tracer (Some toggle) (Some []), [])
    ∷ (tracer (Some toggle) (Some (bytes_of "11\n1")), bytes_of "refused 1 at 4\n")
    ∷ (tracer (Some toggle) (Some (bytes_of "11\n1\n")), bytes_of "refused 12 at 2\n")
    ∷ (tracer (Some toggle) (Some (bytes_of "11\n12\n")), bytes_of "refused 12 at 2\n")
    ∷ (tracer (Some (bytes_of "aag 0 0 0 0 0\n")) (Some (bytes_of "\n\n")), bytes_of "   \n   \n")
    ∷ (tracer (Some (bytes_of "aag 2 1 0 1 1\n2\n5\n4 2 3\n")) (Some (bytes_of "x\n0\n")), bytes_of " x x \n 0 1 \n")
    ∷ (converter (Some (converter (Some (converter (Some toggle))))), converter (Some toggle))
    ∷ (converter (Some (bytes_of "aag 5 2 0 1 3\n2\n4\n6\n6 8 2\n8 2 4\n10 2 5\n")), bytes_of "aig 5 2 0 1 3\n8\n" ++ (2 ∷ 2 ∷ 2 ∷ 4 ∷ 5 ∷ 3 ∷ []))
    ∷ (reducer (Some (bytes_of "aag 2 1 0 1 1\n2\n5\n4 2 3\ni0 a\n")), bytes_of "aig 1 1 0 1 0\n1\ni0 a\n")
    -- the shortest form; resets renamed, and what is observed with them; a start from the resets
    ∷ (converter (Some (bytes_of "aag 1 0 1 0 0 0 0 0 0\n2 3 0\n")), bytes_of "aig 1 0 1 0 0\n3\n")
    ∷ (converter (Some (bytes_of "aag 1 0 0 0 0 1 0 0\n1\n")), bytes_of "aig 0 0 0 0 0 1\n1\n")
    ∷ (converter (Some (bytes_of "aag 3 0 2 1 0 0 1\n6 7 6\n2 2 1\n6\n3\n")), bytes_of "aig 2 0 2 1 0 0 1\n3 2\n4 1\n2\n5\n")
    ∷ (converter (Some (bytes_of "aig 2 0 2 1 0 0 1\n3 2\n4 1\n2\n5\n")), bytes_of "aag 2 0 2 1 0 0 1\n2 3 2\n4 4 1\n2\n5\n")
    ∷ (reducer (Some (bytes_of "aag 2 0 1 0 1 1 1\n2 4 2\n5\n4\n4 2 3\n")), bytes_of "aig 1 0 1 0 0 1 1\n0 2\n1\n0\n")
    ∷ (tracer (Some (bytes_of "aag 2 0 2 1 0 1\n2 3 1\n4 4 4\n2\n4\n")) (Some (bytes_of "\n\n")), bytes_of "1x  1 0x\n0x  0 1x\n")
    ∷ []

programs-hold : map (λ (x : List ℕ × List ℕ). x.0) programs ≡ map (λ (x : List ℕ × List ℕ). x.1) programs
programs-hold = refl
