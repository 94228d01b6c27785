-- What each public function answers and leaves in all it was lent: one function of what it is handed for each, and
-- one relation.
use Rattle.std.specs.Prelude.{ℕ, ◌+◌, ◌*◌, min, ◌≡◌, Bool, true, false, cond, ◌&&◌, List, [], ◌∷◌, ◌++◌, map, eqb, length, take, drop, Result, Ok, Err, Option, Some, None}
use Rattle.plan.specs.declared.Counts.{Counts}
use Rattle.plan.specs.declared.Refusal.{Refusal}
use Rattle.plan.specs.declared.Version.{Version}
use Rattle.plan.specs.declared.Version.TheVariants.{V2007, V19}
use Rattle.plan.specs.declared.Refusal.TheVariants.{WrongByte, ShortBuffer, BadVector}
use Rattle.plan.specs.declared.Finding.{Finding}
use Rattle.plan.specs.declared.Finding.TheVariants as finding
use Rattle.plan.specs.Literals.{beyond}
use Rattle.plan.specs.Refusals.{Parse, got, refused, number_of, place_of, stage, first_of}
use Rattle.plan.specs.Circuit.{Circuit, Tables, counts_of, lengths_of, holding, all_cleared, cleared}
use Rattle.plan.specs.Bytes.{number, digits}
use Rattle.plan.specs.Header.{Form, text, binary, Head, list_of}
use Rattle.plan.specs.Text.{text_of}
use Rattle.plan.specs.Difference.{groups_of}
use Rattle.plan.specs.Binary.{binary_of}
use Rattle.plan.specs.Reading.{read_file}
use Rattle.plan.specs.Given.{Given, given_circuit, lent_alone, lent_with, or_else, failing_at, stages, order_stage}
use Rattle.plan.specs.Given.{tail_stage, lacking_room, room_stage, in_order_then}
use Rattle.plan.specs.Convert.{convert}
use Rattle.plan.specs.Reduce.{reduce}
use Rattle.plan.specs.Step.{code_of, value_of, is_code, outputs_of, next_of, witnessed}

-- the relation that every contract cites: x is what f says of e, so that no second outcome fits
abbrev pub Says : {E X : Type 0} → (E → X) → E → X → Type 0
Says f e x = x ≡ f e

-- the answers as numbers: 0 or the refusal's number, its place, and the values
abbrev pub refusal_values : Refusal → List ℕ → List ℕ
refusal_values r zeros = number_of r ∷ place_of r ∷ zeros

abbrev pub loaded_values : Result (Counts × ℕ) Refusal → List ℕ
loaded_values (Ok (n, start)) = 0 ∷ 0 ∷ list_of n
loaded_values (Err r) = refusal_values r (0 ∷ 0 ∷ 0 ∷ 0 ∷ 0 ∷ 0 ∷ 0 ∷ [])

abbrev pub checked_values : Result Unit Refusal → List ℕ
checked_values (Ok tt) = 0 ∷ 0 ∷ []
checked_values (Err r) = refusal_values r []

abbrev pub written_values : Result ℕ Refusal → List ℕ
written_values (Ok n) = 0 ∷ 0 ∷ n ∷ []
written_values (Err r) = refusal_values r (0 ∷ [])

abbrev pub made_values : Result Counts Refusal → List ℕ
made_values (Ok n) = 0 ∷ 0 ∷ list_of n
made_values (Err r) = refusal_values r (0 ∷ 0 ∷ 0 ∷ 0 ∷ 0 ∷ 0 ∷ 0 ∷ [])

abbrev pub stepped_values : Result Unit Refusal → List ℕ
stepped_values (Ok tt) = 0 ∷ 0 ∷ []
stepped_values (Err r) = refusal_values r []

-- yes: 1, no: 0
abbrev pub verdict_values : Result Bool Refusal → List ℕ
verdict_values (Ok true) = 0 ∷ 0 ∷ 1 ∷ []
verdict_values (Ok false) = 0 ∷ 0 ∷ 0 ∷ []
verdict_values (Err r) = refusal_values r (0 ∷ [])

-- yes: 1, no: 0, undecided: 2, and how many fillings were tried
abbrev pub finding_values : Result Finding Refusal → List ℕ
finding_values (Ok (finding.Yes tried)) = 0 ∷ 0 ∷ 1 ∷ tried ∷ []
finding_values (Ok (finding.No tried)) = 0 ∷ 0 ∷ 0 ∷ tried ∷ []
finding_values (Ok (finding.Undecided tried)) = 0 ∷ 0 ∷ 2 ∷ tried ∷ []
finding_values (Err r) = refusal_values r (0 ∷ 0 ∷ [])

-- how many lines of a run
abbrev pub traced_values : Result ℕ Refusal → List ℕ
traced_values (Ok n) = 0 ∷ 0 ∷ n ∷ []
traced_values (Err r) = refusal_values r (0 ∷ [])

-- of parts of a file: the position after the part; of a header also its form, text 0 and binary 1, and the counts; of a number, whose
-- only refusal is 1, also its value
abbrev pub passed_values : Result ℕ Refusal → List ℕ
passed_values (Ok next) = 0 ∷ 0 ∷ next ∷ []
passed_values (Err r) = refusal_values r (0 ∷ [])

abbrev pub headed_values : Result (Bool × Counts × ℕ) Refusal → List ℕ
headed_values (Ok (is_binary, n, next)) = 0 ∷ 0 ∷ cond is_binary 1 0 ∷ next ∷ list_of n
headed_values (Err r) = refusal_values r (0 ∷ 0 ∷ 0 ∷ 0 ∷ 0 ∷ 0 ∷ 0 ∷ 0 ∷ 0 ∷ [])

abbrev pub number_values : Result (ℕ × ℕ) Refusal → List ℕ
number_values (Ok (v, next)) = 0 ∷ 0 ∷ next ∷ v ∷ []
number_values (Err r) = refusal_values r (0 ∷ 0 ∷ [])

-- a number at a position, cut above every limit
abbrev pub cut_number : Parse ℕ → Result (ℕ × ℕ) Refusal
cut_number (got v next) = Ok (min v beyond, next)
cut_number (refused r) = Err r

abbrev pub number_at : List ℕ → ℕ → Result (ℕ × ℕ) Refusal
number_at file at = cut_number (number file at)

-- a part of a file, and its header
abbrev pub passed_by : {A : Type 0} → Parse A → Result ℕ Refusal
passed_by (got a next) = Ok next
passed_by (refused r) = Err r

abbrev pub is_binary : Form → Bool
is_binary text = false
is_binary binary = true

abbrev pub form_of : Bool → Form
form_of false = text
form_of true = binary

abbrev pub headed_by : Parse Head → Result (Bool × Counts × ℕ) Refusal
headed_by (got h next) = Ok (is_binary h.form, h.counts, next)
headed_by (refused r) = Err r

-- bytes put into a buffer from a position on, all else as it was
abbrev pub put : List ℕ → ℕ → List ℕ → List ℕ
put l at bytes = take at l ++ (bytes ++ drop (at + length bytes) l)

pub record WriteEntry : Type 0 where
  pub out : List ℕ
  pub at : ℕ
  pub value : ℕ

pub record WriteExit : Type 0 where
  pub answer : Result ℕ Refusal
  pub out : List ℕ

abbrev pub put_by : Option ℕ → List ℕ → ℕ → List ℕ → WriteExit
put_by None out at bytes = record { answer = Ok (length bytes); out = put out at bytes }
put_by (Some place) out at bytes = record { answer = Err (ShortBuffer place); out = out }

abbrev pub put_bytes : List ℕ → ℕ → List ℕ → WriteExit
put_bytes out at bytes = put_by (lacking_room out at bytes) out at bytes

abbrev pub write_number : WriteEntry → WriteExit
write_number e = put_bytes e.out e.at (digits e.value)

abbrev pub write_difference : WriteEntry → WriteExit
write_difference e = put_bytes e.out e.at (groups_of e.value)

-- load and read: the file, the lent tables and scratch, whose lengths alone matter
pub record ReadEntry : Type 0 where
  pub file : List ℕ
  pub tables : Tables
  pub scratch : List ℕ

pub record LoadExit : Type 0 where
  pub answer : Result (Counts × ℕ) Refusal
  pub tables : Tables
  pub scratch : List ℕ

abbrev pub load_by : ReadEntry → Parse Circuit → LoadExit
load_by e (got c start) = record {
  answer = Ok (counts_of c, start);
  tables = holding e.tables c;
  scratch = cleared e.scratch;
}
load_by e (refused r) =
    record { answer = Err r; tables = all_cleared e.tables; scratch = cleared e.scratch }

-- by a version of the report
abbrev pub load_as : Version → ReadEntry → LoadExit
load_as v e = load_by e (read_file v e.file (lengths_of e.tables e.scratch))

abbrev pub load : ReadEntry → LoadExit
load e = load_as V19 e

pub record ReadExit : Type 0 where
  pub answer : List ℕ
  pub tail : List ℕ
  pub tables : Tables
  pub scratch : List ℕ

-- the tail is a part of the file, empty after a refusal
abbrev pub tail_of : List ℕ → Result (Counts × ℕ) Refusal → List ℕ
tail_of file (Ok (n, start)) = drop start file
tail_of file (Err r) = []

abbrev pub read_as : Version → ReadEntry → ReadExit
read_as v e =
    let x = load_as v e in
    record {
      answer = loaded_values x.answer;
      tail = tail_of e.file x.answer;
      tables = x.tables;
      scratch = x.scratch;
    }

-- the reader, and that of 2007
abbrev pub read : ReadEntry → ReadExit
read e = read_as V19 e

abbrev pub read2007 : ReadEntry → ReadExit
read2007 e = read_as V2007 e

-- check: given tables alone
pub record CheckExit : Type 0 where
  pub answer : Result Unit Refusal
  pub scratch : List ℕ

abbrev pub checked_by : Option Refusal → Result Unit Refusal
checked_by None = Ok tt
checked_by (Some r) = Err r

abbrev pub check_by : List (Option Refusal) → Given → CheckExit
check_by all g = record { answer = checked_by (first_of all); scratch = cleared g.scratch }

abbrev pub check : Given → CheckExit
check g = check_by (stages g (lent_alone g)) g

-- the same, then 15
abbrev pub check_in_order : Given → CheckExit
check_in_order g = check_by (in_order_then g []) g

-- the writers: given tables, a tail and a buffer
pub record FileEntry : Type 0 where
  pub circuit : Given
  pub tail : List ℕ
  pub out : List ℕ

pub record FileExit : Type 0 where
  pub answer : Result ℕ Refusal
  pub scratch : List ℕ
  pub out : List ℕ

abbrev pub written_by : Option Refusal → FileEntry → List ℕ → FileExit
written_by None e bytes = record {
  answer = Ok (length bytes);
  scratch = cleared e.circuit.scratch;
  out = put e.out 0 bytes;
}
written_by (Some r) e bytes =
    record { answer = Err r; scratch = cleared e.circuit.scratch; out = e.out }

abbrev pub write_text : FileEntry → FileExit
write_text e =
    let g = e.circuit in
    let bytes = text_of (given_circuit g) ++ e.tail in
    written_by (first_of (stages g (lent_alone g) ++ (tail_stage g e.tail ∷ room_stage e.out bytes ∷ []))) e bytes

abbrev pub write_binary : FileEntry → FileExit
write_binary e =
    let g = e.circuit in
    let bytes = binary_of (given_circuit g) ++ e.tail in
    written_by (first_of (in_order_then g (tail_stage g e.tail ∷ room_stage e.out bytes ∷ []))) e bytes

-- conversion and reduction: given tables, and tables lent for writing
pub record MakeEntry : Type 0 where
  pub circuit : Given
  pub written : Tables

pub record MakeExit : Type 0 where
  pub answer : Result Counts Refusal
  pub written : Tables
  pub scratch : List ℕ

abbrev pub made_by : Option Refusal → MakeEntry → Circuit → MakeExit
made_by None e c = record {
  answer = Ok (counts_of c);
  written = holding e.written c;
  scratch = cleared e.circuit.scratch;
}
made_by (Some r) e c =
    record { answer = Err r; written = all_cleared e.written; scratch = cleared e.circuit.scratch }

abbrev pub conversion : MakeEntry → MakeExit
conversion e =
    let g = e.circuit in
    made_by (first_of (stages g (lent_with g e.written))) e (convert (given_circuit g))

abbrev pub reduction : MakeEntry → MakeExit
reduction e =
    let g = e.circuit in
    made_by (first_of (stages g (lent_with g e.written) ++ (order_stage g ∷ []))) e (reduce (given_circuit g))

-- 12: place 1 the state, 2 the input, 3 the output; wrong length, or a byte but "0", "1", "x"
abbrev pub all_codes : List ℕ → Bool
all_codes [] = true
all_codes (b ∷ l) = is_code b && all_codes l

abbrev pub vector_of : ℕ → ℕ → List ℕ → Option ℕ
vector_of place n bytes = failing_at place (eqb (length bytes) n && all_codes bytes)

-- the stepper: given tables, the state, which the next state is written over, the inputs and a buffer for the outputs
pub record StepEntry : Type 0 where
  pub circuit : Given
  pub state : List ℕ
  pub inputs : List ℕ
  pub outputs : List ℕ

pub record StepExit : Type 0 where
  pub answer : Result Unit Refusal
  pub scratch : List ℕ
  pub state : List ℕ
  pub outputs : List ℕ

abbrev pub step_stage : StepEntry → Option Refusal
step_stage e =
    let n = e.circuit.counts in
    stage BadVector
    (or_else (vector_of 1 n.L e.state)
    (or_else (vector_of 2 n.I e.inputs)
    (failing_at 3 (eqb (length e.outputs) n.O))))

abbrev pub stepped_by : Option Refusal → StepEntry → StepExit
stepped_by None e = record {
  answer = Ok tt;
  scratch = cleared e.circuit.scratch;
  state = map code_of (next_of (given_circuit e.circuit) (map value_of e.state) (map value_of e.inputs));
  outputs = map code_of (outputs_of (given_circuit e.circuit) (map value_of e.state) (map value_of e.inputs));
}
stepped_by (Some r) e = record {
  answer = Err r;
  scratch = cleared e.circuit.scratch;
  state = e.state;
  outputs = e.outputs;
}

abbrev pub step : StepEntry → StepExit
step e =
    let g = e.circuit in
    stepped_by (first_of (in_order_then g (step_stage e ∷ []))) e

-- the witness question in three values: given tables, a number of vectors and their bytes
pub record WitnessEntry : Type 0 where
  pub circuit : Given
  pub number : ℕ
  pub bytes : List ℕ

pub record WitnessExit : Type 0 where
  pub answer : Result Bool Refusal
  pub scratch : List ℕ

abbrev pub verdict_by : Option Refusal → Bool → Result Bool Refusal
verdict_by None true = Ok true
verdict_by None false = Ok false
verdict_by (Some r) seen = Err r

abbrev pub list_stage : WitnessEntry → Option Refusal
list_stage e = stage BadVector (vector_of 2 (e.number * e.circuit.counts.I) e.bytes)

abbrev pub witness3 : WitnessEntry → WitnessExit
witness3 e =
    let g = e.circuit in
    record {
      answer = verdict_by (first_of (in_order_then g (list_stage e ∷ []))) (witnessed (given_circuit g) e.number e.bytes);
      scratch = cleared g.scratch;
    }
