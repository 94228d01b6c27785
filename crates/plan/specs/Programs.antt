-- Programs and their output: every byte that each writes.
use Rattle.std.specs.Prelude.{ℕ, Bool, true, cond, ◌&&◌, ◌||◌, List, [], ◌∷◌, ◌++◌, map, eqb, leb, length, drop, Option, Some, None}
use Prim.Native.Char.{code}
use Prim.Native.String.{String, [] as nil, ◌∷◌ as ◌&◌}
use Rattle.plan.specs.declared.Refusal.{Refusal}
use Rattle.plan.specs.declared.Version.TheVariants.{V19}
use Rattle.plan.specs.declared.Refusal.TheVariants.{WrongByte, ShortBuffer, BadVector, LongInput, Unreadable}
use Rattle.plan.specs.Refusals.{Parse, got, refused, ◌then◌, number_of, place_of}
use Rattle.plan.specs.Circuit.{Circuit}
use Rattle.plan.specs.Bytes.{digits}
use Rattle.plan.specs.Header.{Form, text, binary, header}
use Rattle.plan.specs.Text.{text_of}
use Rattle.plan.specs.Binary.{binary_of}
use Rattle.plan.specs.Tail.{ends_line}
use Rattle.plan.specs.Reading.{read_to_work}
use Rattle.plan.specs.Convert.{convert}
use Rattle.plan.specs.Reduce.{reduce}
use Rattle.plan.specs.Step.{code_of, value_of, Step, run, first_state}
use Rattle.plan.specs.Outcome.{all_codes}

abbrev pub bytes_of : String → List ℕ
bytes_of nil = []
bytes_of (c & s) = code c ∷ bytes_of s

-- 16,384 words for table 5, none for 6, 4,096 for each other, 65,536 bytes for a written file
abbrev pub lent_words : List ℕ
lent_words = 4096 ∷ 4096 ∷ 4096 ∷ 4096 ∷ 16384 ∷ 0 ∷ 4096 ∷ 4096 ∷ 4096 ∷ []

abbrev pub lent_bytes : ℕ
lent_bytes = 65536

-- a refusal writes only "refused N at P" and a new line
abbrev pub refusal_line : Refusal → List ℕ
refusal_line r = bytes_of "refused " ++ (digits (number_of r) ++ (bytes_of " at " ++ (digits (place_of r) ++ bytes_of "\n")))

abbrev pub printed : Parse (List ℕ) → List ℕ
printed (got bytes next) = bytes
printed (refused r) = refusal_line r

-- an input, none if it can't be read: 14, then 13, then the rest
abbrev pub input : {A : Type 0} → Option (List ℕ) → (List ℕ → Parse A) → Parse A
input None rest = refused (Unreadable 0)
input (Some bytes) rest = cond (leb (length bytes) 65536) (rest bytes) (refused (LongInput 65536))

abbrev pub fitting : List ℕ → Parse (List ℕ)
fitting bytes = cond (leb (length bytes) lent_bytes) (got bytes (length bytes)) (refused (ShortBuffer (length bytes)))

-- the converter writes the other form. A binary file may be read whose table 5 is too short for the calls that
-- follow: 4 at 5, after all that a reader checks, in each program
abbrev pub other_form : Form → Circuit → List ℕ
other_form text c = binary_of (convert c)
other_form binary c = text_of c

abbrev pub converter : Option (List ℕ) → List ℕ
converter plan_in =
    printed (input plan_in λ file.
    read_to_work file lent_words lent_words then λ c start.
    header V19 file 0 then λ h _.
    fitting (other_form h.form c ++ drop start file))

-- the reducer writes reduced binary
abbrev pub reducer : Option (List ℕ) → List ℕ
reducer plan_in =
    printed (input plan_in λ file.
    read_to_work file lent_words lent_words then λ c start.
    fitting (binary_of (reduce (convert c)) ++ drop start file))

-- the lines of an input, each ended by a new line; bytes after the last new line are no line
abbrev pub on_first : ℕ → List (List ℕ) → List (List ℕ)
on_first b [] = []
on_first b (row ∷ rows) = (b ∷ row) ∷ rows

abbrev pub lines_in : List ℕ → List (List ℕ)
lines_in [] = []
lines_in (b ∷ l) = cond (eqb b 10) ([] ∷ lines_in l) (on_first b (lines_in l))

abbrev pub all_vectors : ℕ → List (List ℕ) → Bool
all_vectors n [] = true
all_vectors n (row ∷ rows) = (eqb (length row) n && all_codes row) && all_vectors n rows

-- the last line has its end: else 1 at the input's length; else a line of wrong length or byte: 12, place 2
abbrev pub stimulus : ℕ → List ℕ → Parse (List (List ℕ))
stimulus n bytes =
    cond (eqb (length bytes) 0 || ends_line bytes)
    (cond (all_vectors n (lines_in bytes)) (got (lines_in bytes) (length bytes)) (refused (BadVector 2)))
    (refused (WrongByte (length bytes)))

-- one line per step: state, inputs, outputs, next state, one space between
abbrev pub step_line : Step → List ℕ
step_line s = map code_of s.state ++ (32 ∷ (map code_of s.inputs
    ++ (32 ∷ (map code_of s.outputs ++ (32 ∷ (map code_of s.next ++ (10 ∷ [])))))))

abbrev pub step_lines : List Step → List ℕ
step_lines [] = []
step_lines (s ∷ steps) = step_line s ++ step_lines steps

-- the tracer converts the circuit; all of plan.in's refusals come before those of standard input
abbrev pub tracer : Option (List ℕ) → Option (List ℕ) → List ℕ
tracer plan_in standard_in =
    printed (input plan_in λ file.
    read_to_work file lent_words lent_words then λ c _.
    input standard_in λ bytes.
    stimulus (length c.inputs) bytes then λ list end.
    got (step_lines (run (convert c) (first_state (convert c)) (map (map value_of) list))) end)
