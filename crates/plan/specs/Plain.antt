-- The plain engine, for teaching circuits of at most 24 gates; and the comparer, which runs it beside the stepper.
use Rattle.std.specs.Prelude.{ℕ, List, [], ◌∷◌, map, leb, length, Option}
use Rattle.plan.specs.declared.Refusal.{Refusal}
use Rattle.plan.specs.declared.Refusal.TheVariants.{ManyGates}
use Rattle.plan.specs.Refusals.{got, ◌then◌, unless, stage, first_of}
use Rattle.plan.specs.Reading.{read_to_work}
use Rattle.plan.specs.Given.{Given, failing_at, in_order_then}
use Rattle.plan.specs.Convert.{convert}
use Rattle.plan.specs.Step.{value_of, run, first_state}
use Rattle.plan.specs.Outcome.{StepEntry, StepExit, step_stage, stepped_by}
use Rattle.plan.specs.Programs.{lent_words, printed, input, stimulus, step_lines}
use Rattle.plan.specs.Whole.{TraceEntry, TraceExit, trace_stage, traced_by}

-- 24: more gates than a teaching circuit has, place their number
abbrev pub many_gates : ℕ → Option ℕ
many_gates a = failing_at a (leb a 24)

abbrev pub gates_stage : Given → Option Refusal
gates_stage g = stage ManyGates (many_gates g.counts.A)

-- one step: the stepper's outcome, with 24 just after 15
abbrev pub plain_step : StepEntry → StepExit
plain_step e =
    let g = e.circuit in
    stepped_by (first_of (in_order_then g (gates_stage g ∷ step_stage e ∷ []))) e

-- a part of a run: the tracer's outcome, with 24 just after 15
abbrev pub plain_trace : TraceEntry → TraceExit
plain_trace e =
    let g = e.circuit in
    traced_by (first_of (in_order_then g (gates_stage g ∷ trace_stage e ∷ []))) e

-- the comparer writes the tracer's lines, which both engines give; 24 is judged with plan.in, before standard input
-- is read
abbrev pub comparer : Option (List ℕ) → Option (List ℕ) → List ℕ
comparer plan_in standard_in =
    printed (input plan_in λ file.
    read_to_work file lent_words lent_words then λ c _.
    unless (many_gates (length c.gates)) ManyGates
    (input standard_in λ bytes.
    stimulus (length c.inputs) bytes then λ list end.
    got (step_lines (run (convert c) (first_state (convert c)) (map (map value_of) list))) end))
