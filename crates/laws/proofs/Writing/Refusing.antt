-- Demand 1's last sentence, of every call: a refusal leaves each table that was lent for writing zero throughout, each byte buffer as it was
-- at entry, and scratch zero throughout. A rewiring alone leaves the gates' table as it came, as wish 13 says.
use Prim.Native.Nat.{ℕ, suc, zero, ◌*◌}
use mathlib.Core.Path.{◌≡◌, refl}
use mathlib.Core.List.{List, [], ◌∷◌, ◌++◌}
use Rattle.std.specs.Prelude.{Err, Option, Some, None}
use native.Mathlib.Omega.{arith}
use lib.ListN.{length, get_or, replicate, length-replicate}
use Rattle.plan.specs.declared.Version.{Version}
use Rattle.plan.specs.declared.Refusal.{Refusal}
use Rattle.plan.specs.declared.Refusal.TheVariants.{WrongValue}
use Rattle.plan.specs.Refusals.{Parse, got, refused, stage, first_of}
use Rattle.plan.specs.Circuit.{Circuit, Tables, lengths_of, all_cleared, cleared}
use Rattle.plan.specs.Bytes.{digits}
use Rattle.plan.specs.Difference.{groups_of}
use Rattle.plan.specs.Text.{text_of}
use Rattle.plan.specs.Binary.{binary_of}
use Rattle.plan.specs.Reading.{read_file}
use Rattle.plan.specs.Given.{Given, given_circuit, lent_alone, lent_with, stages, order_stage, tail_stage, lacking_room, room_stage, in_order_then}
use Rattle.plan.specs.Sixth.{sixth_stages}
use Rattle.plan.specs.Programs.{input}
use Rattle.plan.specs.Convert.{convert}
use Rattle.plan.specs.Reduce.{reduce}
use Rattle.plan.specs.Outcome.{ReadEntry, loaded_values, tail_of, load_by, load_as, read_as, WriteEntry, put_by, write_number, write_difference}
use Rattle.plan.specs.Outcome.{FileEntry, written_by, write_text, write_binary, MakeEntry, made_by, conversion, reduction, check, check_in_order}
use Rattle.plan.specs.Outcome.{StepEntry, step_stage, stepped_by, step, WitnessEntry, witness3}
use Rattle.plan.specs.Drop.{drop_unused, dropping}
use Rattle.plan.specs.Report.{ReportEntry, reported_by, report_stages, report}
use Rattle.plan.specs.Rows.{RowsEntry, row_stage, stepped_rows, step_rows, RowReportEntry, row_report_stage, reported_rows, report_rows}
use Rattle.plan.specs.Explain.{ExplainEntry, marks_asked, vectors_stage, output_stage, explained_by, explain}
use Rattle.plan.specs.Fillings.{FilledEntry, witness}
use Rattle.plan.specs.Plain.{gates_stage, plain_step, plain_trace}
use Rattle.plan.specs.Rewire.{wrong_on, edit_stages, RewireEntry, rewired_by, rewiring}
use Rattle.plan.specs.Cards.{cards_of, read_cards, load_cards, card_stage, write_cards, CardEntry, moved_by, filed_cards, file_whole, carded_file, card_whole}
use Rattle.plan.specs.Whole.{WholeEntry, file_circuit as loaded_file, whole_by, converted_file, convert_whole, reduced_file, reduce_whole, dropped_file, drop_whole}
use Rattle.plan.specs.Whole.{open_by, open_whole, TraceEntry, trace_stage, traced_by, trace}

-- a table as long as before, of which every word is zero; all seven tables
pub record Zeroed (before after : List ℕ) : Type 0 where
  pub long : length after ≡ length before
  pub zeros : (i : ℕ) → get_or after i 0 ≡ 0

pub record AllZeroed (before after : Tables) : Type 0 where
  pub inputs : Zeroed before.inputs after.inputs
  pub latches : Zeroed before.latches after.latches
  pub outputs : Zeroed before.outputs after.outputs
  pub gates : Zeroed before.gates after.gates
  pub resets : Zeroed before.resets after.resets
  pub bads : Zeroed before.bads after.bads
  pub constraints : Zeroed before.constraints after.constraints

zero-at : (n i : ℕ) → ◌≡◌ {A = ℕ} (get_or (replicate n 0) i 0) 0
zero-at zero i = refl
zero-at (suc n) zero = refl
zero-at (suc n) (suc i) = zero-at n i

pub zeroed : (l : List ℕ) → Zeroed l (cleared l)
zeroed l = record { long = length-replicate (length l) 0; zeros = zero-at (length l) }

pub all-zeroed : (t : Tables) → AllZeroed t (all_cleared t)
all-zeroed t = record {
  inputs = zeroed t.inputs;
  latches = zeroed t.latches;
  outputs = zeroed t.outputs;
  gates = zeroed t.gates;
  resets = zeroed t.resets;
  bads = zeroed t.bads;
  constraints = zeroed t.constraints;
}

-- a read, of AIGER and of cards
pub read-refused : (e : ReadEntry) (p : Parse Circuit) (r : Refusal) → (load_by e p).answer ≡ Err r
    → AllZeroed e.tables (load_by e p).tables × Zeroed e.scratch (load_by e p).scratch
read-refused e (got c s) r a = let z : ◌≡◌ {A = ℕ} 0 1 = cc in absurd (omega arith)
read-refused e (refused k) r a = (all-zeroed e.tables, zeroed e.scratch)

-- a conversion, a reduction, a dropping
pub made-refused : (o : Option Refusal) (e : MakeEntry) (c : Circuit) (r : Refusal) → (made_by o e c).answer ≡ Err r
    → AllZeroed e.written (made_by o e c).written × Zeroed e.circuit.scratch (made_by o e c).scratch
made-refused None e c r a = let z : ◌≡◌ {A = ℕ} 0 1 = cc in absurd (omega arith)
made-refused (Some k) e c r a = (all-zeroed e.written, zeroed e.circuit.scratch)

-- a writer of a file; of a number or a difference
pub written-refused : (o : Option Refusal) (e : FileEntry) (bytes : List ℕ) (r : Refusal) → (written_by o e bytes).answer ≡ Err r
    → ((written_by o e bytes).out ≡ e.out) × Zeroed e.circuit.scratch (written_by o e bytes).scratch
written-refused None e bytes r a = let z : ◌≡◌ {A = ℕ} 0 1 = cc in absurd (omega arith)
written-refused (Some k) e bytes r a = (refl, zeroed e.circuit.scratch)

pub put_refused : (o : Option ℕ) (out : List ℕ) (at : ℕ) (bytes : List ℕ) (r : Refusal) → (put_by o out at bytes).answer ≡ Err r
    → (put_by o out at bytes).out ≡ out
put_refused None out at bytes r a = let z : ◌≡◌ {A = ℕ} 0 1 = cc in absurd (omega arith)
put_refused (Some k) out at bytes r a = refl

-- a step
pub step-refused : (o : Option Refusal) (e : StepEntry) (r : Refusal) → (stepped_by o e).answer ≡ Err r
    → ((stepped_by o e).state ≡ e.state) × ((stepped_by o e).outputs ≡ e.outputs) × Zeroed e.circuit.scratch (stepped_by o e).scratch
step-refused None e r a = let z : ◌≡◌ {A = ℕ} 0 1 = cc in absurd (omega arith)
step-refused (Some k) e r a = (refl, refl, zeroed e.circuit.scratch)

-- a report, a step of rows, a row report, an explanation
pub report-refused : (o : Option Refusal) (e : ReportEntry) (r : Refusal) → (reported_by o e).answer ≡ Err r
    → Zeroed e.six (reported_by o e).six × Zeroed e.circuit.scratch (reported_by o e).scratch
report-refused None e r a = let z : ◌≡◌ {A = ℕ} 0 1 = cc in absurd (omega arith)
report-refused (Some k) e r a = (zeroed e.six, zeroed e.circuit.scratch)

pub rows-refused : (o : Option Refusal) (e : RowsEntry) (r : Refusal) → (stepped_rows o e).answer ≡ Err r
    → ((stepped_rows o e).nexts ≡ e.nexts) × ((stepped_rows o e).outputs ≡ e.outputs) × Zeroed e.circuit.scratch (stepped_rows o e).scratch
rows-refused None e r a = let z : ◌≡◌ {A = ℕ} 0 1 = cc in absurd (omega arith)
rows-refused (Some k) e r a = (refl, refl, zeroed e.circuit.scratch)

pub row-report-refused : (o : Option Refusal) (e : RowReportEntry) (r : Refusal) → (reported_rows o e).answer ≡ Err r
    → Zeroed e.report (reported_rows o e).report × Zeroed e.circuit.scratch (reported_rows o e).scratch
row-report-refused None e r a = let z : ◌≡◌ {A = ℕ} 0 1 = cc in absurd (omega arith)
row-report-refused (Some k) e r a = (zeroed e.report, zeroed e.circuit.scratch)

pub explain-refused : (o : Option Refusal) (e : ExplainEntry) (r : Refusal) → (explained_by o e).answer ≡ Err r
    → ((explained_by o e).marks ≡ e.marks) × Zeroed e.circuit.scratch (explained_by o e).scratch
explain-refused None e r a = let z : ◌≡◌ {A = ℕ} 0 1 = cc in absurd (omega arith)
explain-refused (Some k) e r a = (refl, zeroed e.circuit.scratch)

-- whole files: all tables are zero afterwards, whether or not it refuses
pub whole-refused : (e : WholeEntry) (p : Parse (List ℕ)) (r : Refusal) → (whole_by e p).answer ≡ Err r
    → AllZeroed e.read (whole_by e p).read × AllZeroed e.made (whole_by e p).made × Zeroed e.scratch (whole_by e p).scratch
    × ((whole_by e p).out ≡ e.out)
whole-refused e (got bytes n) r a = let z : ◌≡◌ {A = ℕ} 0 1 = cc in absurd (omega arith)
whole-refused e (refused k) r a = (all-zeroed e.read, all-zeroed e.made, zeroed e.scratch, refl)

pub open-refused : (e : WholeEntry) (p : Parse Circuit) (r : Refusal) → (open_by e p).answer ≡ Err r
    → AllZeroed e.read (open_by e p).read × AllZeroed e.made (open_by e p).made × Zeroed e.scratch (open_by e p).scratch
open-refused e (got c n) r a = let z : ◌≡◌ {A = ℕ} 0 1 = cc in absurd (omega arith)
open-refused e (refused k) r a = (all-zeroed e.read, all-zeroed e.made, zeroed e.scratch)

pub moved-refused : (e : CardEntry) (p : Parse (List ℕ)) (r : Refusal) → (moved_by e p).answer ≡ Err r
    → AllZeroed e.tables (moved_by e p).tables × Zeroed e.scratch (moved_by e p).scratch × ((moved_by e p).out ≡ e.out)
moved-refused e (got bytes n) r a = let z : ◌≡◌ {A = ℕ} 0 1 = cc in absurd (omega arith)
moved-refused e (refused k) r a = (all-zeroed e.tables, zeroed e.scratch, refl)

pub trace-refused : (o : Option Refusal) (e : TraceEntry) (r : Refusal) → (traced_by o e).answer ≡ Err r
    → ((traced_by o e).state ≡ e.state) × ((traced_by o e).out ≡ e.out) × Zeroed e.circuit.scratch (traced_by o e).scratch
trace-refused None e r a = let z : ◌≡◌ {A = ℕ} 0 1 = cc in absurd (omega arith)
trace-refused (Some k) e r a = (refl, refl, zeroed e.circuit.scratch)

-- wish 13's departure
pub rewire-refused : (o : Option Refusal) (e : RewireEntry) (r : Refusal) → (rewired_by o e).answer ≡ Err r
    → ((rewired_by o e).gates ≡ e.circuit.tables.gates) × ((rewired_by o e).values ≡ e.values) × Zeroed e.circuit.scratch (rewired_by o e).scratch
rewire-refused None e r a = let z : ◌≡◌ {A = ℕ} 0 1 = cc in absurd (omega arith)
rewire-refused (Some k) e r a = (refl, refl, zeroed e.circuit.scratch)

-- the same of each call
pub record RefusedLeaves : Type 0 where
  pub loading : (v : Version) (e : ReadEntry) (r : Refusal) → (load_as v e).answer ≡ Err r
      → AllZeroed e.tables (load_as v e).tables × Zeroed e.scratch (load_as v e).scratch
  pub reading : (v : Version) (e : ReadEntry) → ¬ (get_or (read_as v e).answer 0 0 ≡ 0)
      → AllZeroed e.tables (read_as v e).tables × Zeroed e.scratch (read_as v e).scratch × ((read_as v e).tail ≡ [])
  pub card-loading : (e : ReadEntry) (r : Refusal) → (load_cards e).answer ≡ Err r
      → AllZeroed e.tables (load_cards e).tables × Zeroed e.scratch (load_cards e).scratch
  pub converting : (e : MakeEntry) (r : Refusal) → (conversion e).answer ≡ Err r
      → AllZeroed e.written (conversion e).written × Zeroed e.circuit.scratch (conversion e).scratch
  pub reducing : (e : MakeEntry) (r : Refusal) → (reduction e).answer ≡ Err r
      → AllZeroed e.written (reduction e).written × Zeroed e.circuit.scratch (reduction e).scratch
  pub dropping-gates : (e : MakeEntry) (r : Refusal) → (dropping e).answer ≡ Err r
      → AllZeroed e.written (dropping e).written × Zeroed e.circuit.scratch (dropping e).scratch
  pub writing-text : (e : FileEntry) (r : Refusal) → (write_text e).answer ≡ Err r
      → ((write_text e).out ≡ e.out) × Zeroed e.circuit.scratch (write_text e).scratch
  pub writing-binary : (e : FileEntry) (r : Refusal) → (write_binary e).answer ≡ Err r
      → ((write_binary e).out ≡ e.out) × Zeroed e.circuit.scratch (write_binary e).scratch
  pub writing-cards : (e : FileEntry) (r : Refusal) → (write_cards e).answer ≡ Err r
      → ((write_cards e).out ≡ e.out) × Zeroed e.circuit.scratch (write_cards e).scratch
  pub writing-number : (e : WriteEntry) (r : Refusal) → (write_number e).answer ≡ Err r → (write_number e).out ≡ e.out
  pub writing-difference : (e : WriteEntry) (r : Refusal) → (write_difference e).answer ≡ Err r → (write_difference e).out ≡ e.out
  pub stepping : (e : StepEntry) (r : Refusal) → (step e).answer ≡ Err r
      → ((step e).state ≡ e.state) × ((step e).outputs ≡ e.outputs) × Zeroed e.circuit.scratch (step e).scratch
  pub plain-stepping : (e : StepEntry) (r : Refusal) → (plain_step e).answer ≡ Err r
      → ((plain_step e).state ≡ e.state) × ((plain_step e).outputs ≡ e.outputs) × Zeroed e.circuit.scratch (plain_step e).scratch
  pub reporting : (e : ReportEntry) (r : Refusal) → (report e).answer ≡ Err r
      → Zeroed e.six (report e).six × Zeroed e.circuit.scratch (report e).scratch
  pub stepping-rows : (e : RowsEntry) (r : Refusal) → (step_rows e).answer ≡ Err r
      → ((step_rows e).nexts ≡ e.nexts) × ((step_rows e).outputs ≡ e.outputs) × Zeroed e.circuit.scratch (step_rows e).scratch
  pub reporting-rows : (e : RowReportEntry) (r : Refusal) → (report_rows e).answer ≡ Err r
      → Zeroed e.report (report_rows e).report × Zeroed e.circuit.scratch (report_rows e).scratch
  pub explaining : (e : ExplainEntry) (r : Refusal) → (explain e).answer ≡ Err r
      → ((explain e).marks ≡ e.marks) × Zeroed e.circuit.scratch (explain e).scratch
  pub rewiring-gates : (e : RewireEntry) (r : Refusal) → (rewiring e).answer ≡ Err r
      → ((rewiring e).gates ≡ e.circuit.tables.gates) × ((rewiring e).values ≡ e.values) × Zeroed e.circuit.scratch (rewiring e).scratch
  -- calls that write no table and no bytes: their scratch is zero whatever they answer
  pub checking : (g : Given) → Zeroed g.scratch (check g).scratch × Zeroed g.scratch (check_in_order g).scratch
  pub witnessing-three : (e : WitnessEntry) → Zeroed e.circuit.scratch (witness3 e).scratch
  pub witnessing : (e : FilledEntry) → Zeroed e.list.circuit.scratch (witness e).scratch
  -- whole files
  pub converting-file : (e : WholeEntry) (r : Refusal) → (convert_whole e).answer ≡ Err r
      → AllZeroed e.read (convert_whole e).read × AllZeroed e.made (convert_whole e).made × Zeroed e.scratch (convert_whole e).scratch
      × ((convert_whole e).out ≡ e.out)
  pub reducing-file : (e : WholeEntry) (r : Refusal) → (reduce_whole e).answer ≡ Err r
      → AllZeroed e.read (reduce_whole e).read × AllZeroed e.made (reduce_whole e).made × Zeroed e.scratch (reduce_whole e).scratch
      × ((reduce_whole e).out ≡ e.out)
  pub dropping-file : (e : WholeEntry) (r : Refusal) → (drop_whole e).answer ≡ Err r
      → AllZeroed e.read (drop_whole e).read × AllZeroed e.made (drop_whole e).made × Zeroed e.scratch (drop_whole e).scratch
      × ((drop_whole e).out ≡ e.out)
  pub opening-file : (e : WholeEntry) (r : Refusal) → (open_whole e).answer ≡ Err r
      → AllZeroed e.read (open_whole e).read × AllZeroed e.made (open_whole e).made × Zeroed e.scratch (open_whole e).scratch
  pub filing-cards : (e : CardEntry) (r : Refusal) → (file_whole e).answer ≡ Err r
      → AllZeroed e.tables (file_whole e).tables × Zeroed e.scratch (file_whole e).scratch × ((file_whole e).out ≡ e.out)
  pub carding-file : (e : CardEntry) (r : Refusal) → (card_whole e).answer ≡ Err r
      → AllZeroed e.tables (card_whole e).tables × Zeroed e.scratch (card_whole e).scratch × ((card_whole e).out ≡ e.out)
  pub tracing : (e : TraceEntry) (r : Refusal) → (trace e).answer ≡ Err r
      → ((trace e).state ≡ e.state) × ((trace e).out ≡ e.out) × Zeroed e.circuit.scratch (trace e).scratch
  pub plain-tracing : (e : TraceEntry) (r : Refusal) → (plain_trace e).answer ≡ Err r
      → ((plain_trace e).state ≡ e.state) × ((plain_trace e).out ≡ e.out) × Zeroed e.circuit.scratch (plain_trace e).scratch

number-refused : (file : List ℕ) (e : ReadEntry) (p : Parse Circuit) → ¬ (get_or (loaded_values (load_by e p).answer) 0 0 ≡ 0)
    → AllZeroed e.tables (load_by e p).tables × Zeroed e.scratch (load_by e p).scratch × (tail_of file (load_by e p).answer ≡ [])
number-refused file e (got c s) h = absurd (h refl)
number-refused file e (refused k) h = (all-zeroed e.tables, zeroed e.scratch, refl)

pub refused-leaves : RefusedLeaves
refused-leaves = record {
  loading = λ v e r a. read-refused e (read_file v e.file (lengths_of e.tables e.scratch)) r a;
  reading = λ v e h. number-refused e.file e (read_file v e.file (lengths_of e.tables e.scratch)) h;
  card-loading = λ e r a. read-refused e (read_cards e.file (lengths_of e.tables e.scratch)) r a;
  converting = λ e r a. made-refused (first_of (stages e.circuit (lent_with e.circuit e.written))) e (convert (given_circuit e.circuit)) r a;
  reducing = λ e r a. made-refused (first_of (stages e.circuit (lent_with e.circuit e.written) ++ (order_stage e.circuit ∷ []))) e
      (reduce (given_circuit e.circuit)) r a;
  dropping-gates = λ e r a. made-refused (first_of (stages e.circuit (lent_with e.circuit e.written) ++ (order_stage e.circuit ∷ []))) e
      (drop_unused (given_circuit e.circuit)) r a;
  writing-text = λ e r a.
      let g = e.circuit in
      let bytes = text_of (given_circuit g) ++ e.tail in
      written-refused (first_of (stages g (lent_alone g) ++ (tail_stage g e.tail ∷ room_stage e.out bytes ∷ []))) e bytes r a;
  writing-binary = λ e r a.
      let g = e.circuit in
      let bytes = binary_of (given_circuit g) ++ e.tail in
      written-refused (first_of (in_order_then g (tail_stage g e.tail ∷ room_stage e.out bytes ∷ []))) e bytes r a;
  writing-cards = λ e r a.
      let g = e.circuit in
      let bytes = cards_of (given_circuit g) in
      written-refused (first_of (in_order_then g (tail_stage g e.tail ∷ card_stage g e.tail ∷ room_stage e.out bytes ∷ []))) e bytes r a;
  writing-number = λ e r a. put_refused (lacking_room e.out e.at (digits e.value)) e.out e.at (digits e.value) r a;
  writing-difference = λ e r a. put_refused (lacking_room e.out e.at (groups_of e.value)) e.out e.at (groups_of e.value) r a;
  stepping = λ e r a. step-refused (first_of (in_order_then e.circuit (step_stage e ∷ []))) e r a;
  plain-stepping = λ e r a. step-refused (first_of (in_order_then e.circuit (gates_stage e.circuit ∷ step_stage e ∷ []))) e r a;
  reporting = λ e r a. report-refused (first_of (report_stages e)) e r a;
  stepping-rows = λ e r a. rows-refused (first_of (in_order_then e.circuit (row_stage e ∷ []))) e r a;
  reporting-rows = λ e r a. row-report-refused
      (first_of (sixth_stages e.circuit (3 * e.circuit.counts.O) e.report ++ (row_report_stage e ∷ []))) e r a;
  explaining = λ e r a. explain-refused
      (first_of (in_order_then e.circuit (vectors_stage e ∷ output_stage e ∷ room_stage e.marks (marks_asked e) ∷ []))) e r a;
  rewiring-gates = λ e r a.
      let g = e.circuit in
      rewire-refused (first_of (in_order_then g (edit_stages g.counts e.gate e.rhs0 e.rhs1 (length e.values)
      ++ (stage WrongValue (wrong_on (given_circuit g) e.values) ∷ [])))) e r a;
  checking = λ g. (zeroed g.scratch, zeroed g.scratch);
  witnessing-three = λ e. zeroed e.circuit.scratch;
  witnessing = λ e. zeroed e.list.circuit.scratch;
  converting-file = λ e r a. whole-refused e (converted_file e) r a;
  reducing-file = λ e r a. whole-refused e (reduced_file e) r a;
  dropping-file = λ e r a. whole-refused e (dropped_file e) r a;
  opening-file = λ e r a. open-refused e (input e.plan (loaded_file e)) r a;
  filing-cards = λ e r a. moved-refused e (filed_cards e) r a;
  carding-file = λ e r a. moved-refused e (carded_file e) r a;
  tracing = λ e r a. trace-refused (first_of (in_order_then e.circuit (trace_stage e ∷ []))) e r a;
  plain-tracing = λ e r a. trace-refused (first_of (in_order_then e.circuit (gates_stage e.circuit ∷ trace_stage e ∷ []))) e r a;
}
