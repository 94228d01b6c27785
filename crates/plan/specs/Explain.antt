-- Why does this needle lift: the places of state and inputs that made an output 0 or 1 in a step.
use Rattle.std.specs.Prelude.{ℕ, not, cond, List, [], ◌∷◌, ◌++◌, map, eqb, ltb, length, get_or, take, drop, Result, Ok, Err, Option, Some, None}
use Rattle.plan.specs.declared.Refusal.{Refusal}
use Rattle.plan.specs.declared.Refusal.TheVariants.{BadVector, NotExplained}
use Rattle.plan.specs.Literals.{var_of}
use Rattle.plan.specs.Refusals.{stage, first_of}
use Rattle.plan.specs.Circuit.{Gate, Circuit, cleared, vars, current_vars, has}
use Rattle.plan.specs.Given.{Given, given_circuit, or_else, failing_at, room_stage, in_order_then}
use Rattle.plan.specs.Step.{Value, v0, v1, vx, value_of, same, lit, values_of}
use Rattle.plan.specs.Outcome.{put, vector_of}
use Rattle.plan.specs.Walk.{Walked, walk}
use Rattle.plan.specs.Drop.{sides_of}

-- the first right side that is 0
abbrev pub zero_side : (ℕ → Value) → Gate → ℕ
zero_side w g = cond (same (lit w g.rhs0) v0) (var_of g.rhs0) (var_of g.rhs1)

-- a gate at 1 blames both sides; a gate at 0 blames the first right side that is 0
abbrev pub blames_at : Value → (ℕ → Value) → Gate → List ℕ
blames_at v0 w g = zero_side w g ∷ []
blames_at v1 w g = sides_of g
blames_at vx w g = []

abbrev pub blames : (ℕ → Value) → Gate → List ℕ
blames w g = blames_at (w (var_of g.lhs)) w g

-- v is blamed for a literal in a step: the literal's variable is, whatever its sign, and all that is blamed from
-- there, in any number of steps
abbrev pub Blamed : Circuit → List Value → List Value → ℕ → ℕ → Type 0
Blamed c state ins l v = Walked (blames (values_of c state ins)) c.gates (var_of l ∷ []) v

abbrev pub blamed : Circuit → List Value → List Value → ℕ → List ℕ
blamed c state ins l = walk (blames (values_of c state ins)) c.gates (var_of l ∷ [])

-- "1" for marked and "0" for not
abbrev pub mark : List ℕ → ℕ → ℕ
mark vs v = cond (has v vs) 49 48

-- the variables that have a place, state first
abbrev pub places : Circuit → List ℕ
places c = current_vars c.latches ++ vars c.inputs

abbrev pub marks_for : Circuit → List Value → List Value → ℕ → List ℕ
marks_for c state ins l = map (mark (blamed c state ins l)) (places c)

-- every unmarked place turned to x
abbrev pub only : List ℕ → List Value → List Value
only [] values = []
only (m ∷ marks) [] = []
only (m ∷ marks) (a ∷ values) = cond (eqb m 49) a vx ∷ only marks values

abbrev pub only_state : Circuit → List ℕ → List Value → List Value
only_state c marks state = only (take (length c.latches) marks) state

abbrev pub only_inputs : Circuit → List ℕ → List Value → List Value
only_inputs c marks ins = only (drop (length c.latches) marks) ins

-- the call: given tables, a state and inputs, the number of an output, and a buffer for the marks
pub record ExplainEntry : Type 0 where
  pub circuit : Given
  pub state : List ℕ
  pub inputs : List ℕ
  pub output : ℕ
  pub marks : List ℕ

pub record ExplainExit : Type 0 where
  pub answer : Result Unit Refusal
  pub scratch : List ℕ
  pub marks : List ℕ

abbrev pub state_of : ExplainEntry → List Value
state_of e = map value_of e.state

abbrev pub inputs_of : ExplainEntry → List Value
inputs_of e = map value_of e.inputs

-- the literal of the output that is asked for, its value, and the marks
abbrev pub asked : ExplainEntry → ℕ
asked e = get_or (given_circuit e.circuit).outputs e.output 0

abbrev pub value_asked : ExplainEntry → Value
value_asked e = lit (values_of (given_circuit e.circuit) (state_of e) (inputs_of e)) (asked e)

abbrev pub marks_asked : ExplainEntry → List ℕ
marks_asked e = marks_for (given_circuit e.circuit) (state_of e) (inputs_of e) (asked e)

-- 12 as in a step, of the state and of the inputs
abbrev pub vectors_stage : ExplainEntry → Option Refusal
vectors_stage e =
    let n = e.circuit.counts in
    stage BadVector
    (or_else (vector_of 1 n.L e.state) (vector_of 2 n.I e.inputs))

-- 17: place 1 an output number that is not there, 2 an output that is x
abbrev pub output_stage : ExplainEntry → Option Refusal
output_stage e =
    stage NotExplained
    (or_else (failing_at 1 (ltb e.output e.circuit.counts.O))
    (failing_at 2 (not (same (value_asked e) vx))))

abbrev pub explained_by : Option Refusal → ExplainEntry → ExplainExit
explained_by None e =
    record { answer = Ok tt; scratch = cleared e.circuit.scratch; marks = put e.marks 0 (marks_asked e) }
explained_by (Some r) e = record { answer = Err r; scratch = cleared e.circuit.scratch; marks = e.marks }

-- 11 with L + I, after 12 and 17
abbrev pub explain : ExplainEntry → ExplainExit
explain e =
    let g = e.circuit in
    explained_by (first_of (in_order_then g (vectors_stage e ∷ output_stage e ∷ room_stage e.marks (marks_asked e) ∷ []))) e
