-- Whole files: from the bytes of an input to the bytes that are written, for any tables lent.
use Rattle.std.specs.Prelude.{ℕ, ◌+◌, ◌*◌, ◌/◌, min, Bool, true, false, ◌&&◌, ◌||◌, List, [], ◌∷◌, ◌++◌, map, eqb, length, take, drop, Result, Ok, Err, Option, Some, None}
use Rattle.plan.specs.declared.Counts.{Counts}
use Rattle.plan.specs.declared.Version.TheVariants.{V19}
use Rattle.plan.specs.declared.Refusal.{Refusal}
use Rattle.plan.specs.declared.Refusal.TheVariants.{ShortBuffer, BadVector}
use Rattle.plan.specs.Refusals.{Parse, got, refused, ◌then◌, unless, stage, first_of}
use Rattle.plan.specs.Circuit.{Circuit, Tables, counts_of, lengths_of, holding, all_cleared, cleared}
use Rattle.plan.specs.Header.{header}
use Rattle.plan.specs.Binary.{binary_of}
use Rattle.plan.specs.Tail.{ends_line}
use Rattle.plan.specs.Reading.{read_to_work}
use Rattle.plan.specs.Given.{Given, given_circuit, or_else, lacking_room, in_order_then, failing_at}
use Rattle.plan.specs.Convert.{convert}
use Rattle.plan.specs.Reduce.{reduce}
use Rattle.plan.specs.Drop.{drop_unused}
use Rattle.plan.specs.Step.{Value, code_of, value_of, next_of, run}
use Rattle.plan.specs.Outcome.{WriteExit, put_bytes, put, vector_of}
use Rattle.plan.specs.Programs.{refusal_line, input, other_form, lines_in, all_vectors, stimulus, step_lines}

-- the line of a refusal, put into a buffer
abbrev pub tell_refusal : Refusal → List ℕ → WriteExit
tell_refusal r out = put_bytes out 0 (refusal_line r)

-- an input that can be read, or not
abbrev pub input_of : Bool → List ℕ → Option (List ℕ)
input_of true bytes = Some bytes
input_of false bytes = None

-- what is lent: tables to read a circuit into, tables to make one in, which bear the same numbers, scratch and a buffer
pub record WholeEntry : Type 0 where
  pub plan : Option (List ℕ)
  pub read : Tables
  pub made : Tables
  pub scratch : List ℕ
  pub out : List ℕ

pub record WholeExit : Type 0 where
  pub answer : Result ℕ Refusal
  pub read : Tables
  pub made : Tables
  pub scratch : List ℕ
  pub out : List ℕ

-- the circuit of the file, by all that a reader checks; then 4 for the tables to make a circuit in and for scratch,
-- of which a binary file may need less to be read. The position is the tail's
abbrev pub file_circuit : WholeEntry → List ℕ → Parse Circuit
file_circuit e file = read_to_work file (lengths_of e.read e.scratch) (lengths_of e.made e.scratch)

-- the bytes to write, or 11
abbrev pub fitting_in : List ℕ → List ℕ → Parse (List ℕ)
fitting_in out bytes = unless (lacking_room out 0 bytes) ShortBuffer (got bytes (length bytes))

-- all tables are zero afterwards
abbrev pub whole_by : WholeEntry → Parse (List ℕ) → WholeExit
whole_by e (got bytes n) = record {
  answer = Ok (length bytes);
  read = all_cleared e.read;
  made = all_cleared e.made;
  scratch = cleared e.scratch;
  out = put e.out 0 bytes;
}
whole_by e (refused r) = record {
  answer = Err r;
  read = all_cleared e.read;
  made = all_cleared e.made;
  scratch = cleared e.scratch;
  out = e.out;
}

-- the other form, with the same tail
abbrev pub converted_file : WholeEntry → Parse (List ℕ)
converted_file e =
    input e.plan λ file.
    file_circuit e file then λ c start.
    header V19 file 0 then λ h _.
    fitting_in e.out (other_form h.form c ++ drop start file)

abbrev pub convert_whole : WholeEntry → WholeExit
convert_whole e = whole_by e (converted_file e)

-- reduced binary, with the same tail
abbrev pub reduced_file : WholeEntry → Parse (List ℕ)
reduced_file e =
    input e.plan λ file.
    file_circuit e file then λ c start.
    fitting_in e.out (binary_of (reduce (convert c)) ++ drop start file)

abbrev pub reduce_whole : WholeEntry → WholeExit
reduce_whole e = whole_by e (reduced_file e)

-- reduced binary without its unused gates, with the same tail
abbrev pub dropped_file : WholeEntry → Parse (List ℕ)
dropped_file e =
    input e.plan λ file.
    file_circuit e file then λ c start.
    fitting_in e.out (binary_of (drop_unused (reduce (convert c))) ++ drop start file)

abbrev pub drop_whole : WholeEntry → WholeExit
drop_whole e = whole_by e (dropped_file e)

-- the converted circuit of a file, in the tables to make one in
pub record OpenExit : Type 0 where
  pub answer : Result Counts Refusal
  pub read : Tables
  pub made : Tables
  pub scratch : List ℕ

abbrev pub open_by : WholeEntry → Parse Circuit → OpenExit
open_by e (got c start) = record {
  answer = Ok (counts_of (convert c));
  read = all_cleared e.read;
  made = holding e.made (convert c);
  scratch = cleared e.scratch;
}
open_by e (refused r) = record {
  answer = Err r;
  read = all_cleared e.read;
  made = all_cleared e.made;
  scratch = cleared e.scratch;
}

abbrev pub open_whole : WholeEntry → OpenExit
open_whole e = open_by e (input e.plan (file_circuit e))

-- the lines of standard input: how many, by 14, 13, 1 and 12
abbrev pub counted_by : Parse (List (List ℕ)) → Result ℕ Refusal
counted_by (got list end) = Ok (length list)
counted_by (refused r) = Err r

abbrev pub count_lines : Option (List ℕ) → ℕ → Result ℕ Refusal
count_lines standard_in width = counted_by (input standard_in (stimulus width))

-- a part of a run: the circuit in binary order, the state, whole lines of vectors and a buffer for lines of steps
pub record TraceEntry : Type 0 where
  pub circuit : Given
  pub state : List ℕ
  pub vectors : List ℕ
  pub out : List ℕ

pub record TraceExit : Type 0 where
  pub answer : Result ℕ Refusal
  pub scratch : List ℕ
  pub state : List ℕ
  pub out : List ℕ

-- 12: place 1 the state, 2 the vectors
abbrev pub trace_stage : TraceEntry → Option Refusal
trace_stage e =
    let n = e.circuit.counts in
    stage BadVector
    (or_else (vector_of 1 n.L e.state)
    (failing_at 2 ((eqb (length e.vectors) 0 || ends_line e.vectors) && all_vectors n.I (lines_in e.vectors))))

-- the bytes of a line; and of the lines as many as fit whole
abbrev pub line_width : Counts → ℕ
line_width n = 2 * n.L + n.I + n.O + 4

abbrev pub next_lines : TraceEntry → List (List Value)
next_lines e =
    let lines = lines_in e.vectors in
    map (map value_of) (take (min (length lines) (length e.out / line_width e.circuit.counts)) lines)

-- the state after a list of vectors
abbrev pub state_after : Circuit → List Value → List (List Value) → List Value
state_after c state [] = state
state_after c state (ins ∷ list) = state_after c (next_of c state ins) list

abbrev pub traced_by : Option Refusal → TraceEntry → TraceExit
traced_by None e =
    let c = given_circuit e.circuit in
    let state = map value_of e.state in
    record {
      answer = Ok (length (next_lines e));
      scratch = cleared e.circuit.scratch;
      state = map code_of (state_after c state (next_lines e));
      out = put e.out 0 (step_lines (run c state (next_lines e)));
    }
traced_by (Some r) e =
    record { answer = Err r; scratch = cleared e.circuit.scratch; state = e.state; out = e.out }

abbrev pub trace : TraceEntry → TraceExit
trace e =
    let g = e.circuit in
    traced_by (first_of (in_order_then g (trace_stage e ∷ []))) e
