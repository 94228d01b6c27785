-- Many rows at once: each row is one input vector, stepped once from the resets. Their outputs and next states as
-- bytes, and their report.
use Rattle.std.specs.Prelude.{ℕ, ◌*◌, List, [], ◌∷◌, ◌++◌, map, eqb, leb, length, Result, Ok, Err, Option, Some, None}
use Rattle.plan.specs.declared.Refusal.{Refusal}
use Rattle.plan.specs.declared.Refusal.TheVariants.{BadVector, LongInput}
use Rattle.plan.specs.Refusals.{stage, first_of}
use Rattle.plan.specs.Circuit.{Circuit, flat, filled, cleared}
use Rattle.plan.specs.Given.{Given, given_circuit, or_else, failing_at, in_order_then}
use Rattle.plan.specs.Step.{code_of, Step, step_of, first_state, vectors_of}
use Rattle.plan.specs.Outcome.{vector_of}
use Rattle.plan.specs.Sixth.{sixth_stages}
use Rattle.plan.specs.Report.{times_of, output_along, in_turn}

-- one bit lane for each row, and at most as many rows
abbrev pub lanes : ℕ
lanes = 64

-- the plain stepper, row by row
abbrev pub row_steps : Circuit → ℕ → List ℕ → List Step
row_steps c rows bytes = map (step_of c (first_state c)) (vectors_of c rows bytes)

-- outputs and next states as bytes, O and L a row
abbrev pub outputs_of_row : Step → List ℕ
outputs_of_row s = map code_of s.outputs

abbrev pub next_of_row : Step → List ℕ
next_of_row s = map code_of s.next

abbrev pub output_bytes : List Step → List ℕ
output_bytes steps = flat (map outputs_of_row steps)

abbrev pub next_bytes : List Step → List ℕ
next_bytes steps = flat (map next_of_row steps)

-- the row report: per output the rows at 0, at 1 and at x
abbrev pub row_report : Circuit → List Step → List ℕ
row_report c steps = in_turn (λ j. times_of (output_along steps j)) (length c.outputs)

-- 13 for more rows than lanes, place the number of lanes, just before 12
abbrev pub many_rows : ℕ → Option Refusal
many_rows rows = stage LongInput (failing_at lanes (leb rows lanes))

-- the step of rows: given tables, a number of rows and their inputs, and buffers for the next states and the outputs
pub record RowsEntry : Type 0 where
  pub circuit : Given
  pub rows : ℕ
  pub nexts : List ℕ
  pub inputs : List ℕ
  pub outputs : List ℕ

pub record RowsExit : Type 0 where
  pub answer : Result Unit Refusal
  pub scratch : List ℕ
  pub nexts : List ℕ
  pub outputs : List ℕ

-- 12: place 1 the next states and 3 the outputs, by length only, 2 the inputs, one vector a row
abbrev pub row_vectors : RowsEntry → Option ℕ
row_vectors e =
    let n = e.circuit.counts in
    or_else (failing_at 1 (eqb (length e.nexts) (e.rows * n.L)))
    (or_else (vector_of 2 (e.rows * n.I) e.inputs)
    (failing_at 3 (eqb (length e.outputs) (e.rows * n.O))))

abbrev pub row_stage : RowsEntry → Option Refusal
row_stage e = first_of (many_rows e.rows ∷ stage BadVector (row_vectors e) ∷ [])

abbrev pub stepped_rows : Option Refusal → RowsEntry → RowsExit
stepped_rows None e = record {
  answer = Ok tt;
  scratch = cleared e.circuit.scratch;
  nexts = next_bytes (row_steps (given_circuit e.circuit) e.rows e.inputs);
  outputs = output_bytes (row_steps (given_circuit e.circuit) e.rows e.inputs);
}
stepped_rows (Some r) e = record {
  answer = Err r;
  scratch = cleared e.circuit.scratch;
  nexts = e.nexts;
  outputs = e.outputs;
}

abbrev pub step_rows : RowsEntry → RowsExit
step_rows e =
    let g = e.circuit in
    stepped_rows (first_of (in_order_then g (row_stage e ∷ []))) e

-- the row report: given tables, a number of rows and their inputs, and table 6, of three words for each output
pub record RowReportEntry : Type 0 where
  pub circuit : Given
  pub rows : ℕ
  pub inputs : List ℕ
  pub report : List ℕ

pub record RowReportExit : Type 0 where
  pub answer : Result Unit Refusal
  pub scratch : List ℕ
  pub report : List ℕ

abbrev pub row_report_stage : RowReportEntry → Option Refusal
row_report_stage e =
    first_of (many_rows e.rows ∷ stage BadVector (vector_of 2 (e.rows * e.circuit.counts.I) e.inputs) ∷ [])

abbrev pub reported_rows : Option Refusal → RowReportEntry → RowReportExit
reported_rows None e = record {
  answer = Ok tt;
  scratch = cleared e.circuit.scratch;
  report = filled e.report (row_report (given_circuit e.circuit) (row_steps (given_circuit e.circuit) e.rows e.inputs));
}
reported_rows (Some r) e =
    record { answer = Err r; scratch = cleared e.circuit.scratch; report = cleared e.report }

abbrev pub report_rows : RowReportEntry → RowReportExit
report_rows e =
    let g = e.circuit in
    reported_rows (first_of (sixth_stages g (3 * g.counts.O) e.report ++ (row_report_stage e ∷ []))) e
