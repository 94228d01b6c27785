-- Rewire one gate at the desk: its two right sides are changed while a step's values are on the screen.
use Rattle.std.specs.Prelude.{ℕ, zero, suc, ◌+◌, ◌*◌, min, max, false, cond, ◌&&◌, List, [], ◌∷◌, ◌++◌, map, eqb, ltb, length, get_or, take, drop, Result, Ok, Err, Option, Some, None}
use Rattle.plan.specs.declared.Counts.{Counts}
use Rattle.plan.specs.declared.Refusal.{Refusal}
use Rattle.plan.specs.declared.Refusal.TheVariants.{OutOfRange, NotInOrder, BadVector, NoGate, WrongValue}
use Rattle.plan.specs.Literals.{lit_of, in_range}
use Rattle.plan.specs.Refusals.{stage, first_of}
use Rattle.plan.specs.Circuit.{Gate, Circuit, cleared}
use Rattle.plan.specs.Depends.{find}
use Rattle.plan.specs.Binary.{lits_from}
use Rattle.plan.specs.Given.{Given, given_circuit, failing_at, failing, in_order_then}
use Rattle.plan.specs.Step.{Value, v0, code_of, value_of, lit, gate_value, values_of}
use Rattle.plan.specs.Outcome.{put}

-- gate number k, counted from 0, gets these right sides, larger first
abbrev pub rewired_gates : ℕ → ℕ → ℕ → List Gate → List Gate
rewired_gates k a b [] = []
rewired_gates zero a b (g ∷ gs) = record { lhs = g.lhs; rhs0 = max a b; rhs1 = min a b } ∷ gs
rewired_gates (suc k) a b (g ∷ gs) = g ∷ rewired_gates k a b gs

abbrev pub rewire : Circuit → ℕ → ℕ → ℕ → Circuit
rewire c k a b = record {
  M = c.M;
  inputs = c.inputs;
  latches = c.latches;
  resets = c.resets;
  outputs = c.outputs;
  bads = c.bads;
  constraints = c.constraints;
  gates = rewired_gates k a b c.gates;
}

-- the values of a step on the screen: one byte per variable, the constant first
abbrev pub screen : Circuit → List Value → List Value → List ℕ
screen c state ins = map code_of (map (lit (values_of c state ins)) (lits_from 0 (c.M + 1)))

-- those of inputs and latches are the step's inputs and state
abbrev pub inputs_on : Circuit → List ℕ → List Value
inputs_on c bytes = map value_of (take (length c.inputs) (drop 1 bytes))

abbrev pub state_on : Circuit → List ℕ → List Value
state_on c bytes = map value_of (take (length c.latches) (drop (1 + length c.inputs) bytes))

abbrev pub value_on : List ℕ → ℕ → Value
value_on bytes v = value_of (get_or bytes v 0)

-- what a variable's value must be: the constant is 0, an input or a latch has its own, a gate the And of its right
-- sides' values
abbrev pub follows : List Gate → List ℕ → ℕ → Value
follows gs bytes v = gate_value (value_on bytes) (cond (eqb v 0) v0 (value_on bytes v)) (find v gs)

-- 23: the least variable, of n from v on, whose byte is another
abbrev pub wrong_from : List Gate → List ℕ → ℕ → ℕ → Option ℕ
wrong_from gs bytes v zero = None
wrong_from gs bytes v (suc n) =
    cond (eqb (get_or bytes v 0) (code_of (follows gs bytes v))) (wrong_from gs bytes (suc v) n) (Some v)

abbrev pub wrong_on : Circuit → List ℕ → Option ℕ
wrong_on c bytes = wrong_from c.gates bytes 0 (c.M + 1)

-- the values afterwards: a fresh step of the edited circuit
abbrev pub rewired_screen : Circuit → ℕ → ℕ → ℕ → List ℕ → List ℕ
rewired_screen c k a b bytes = screen (rewire c k a b) (state_on c bytes) (inputs_on c bytes)

-- the left side of gate k in binary order
abbrev pub left_at : Counts → ℕ → ℕ
left_at n k = lit_of (1 + n.I + n.L + k)

-- 22, 5, 15 and 12 of an edit: the gate's number, its two right sides, and the length of the values
abbrev pub edit_stages : Counts → ℕ → ℕ → ℕ → ℕ → List (Option Refusal)
edit_stages n k a b len =
    stage NoGate (failing_at k (ltb k n.A))
    ∷ stage OutOfRange (failing_at 4 (in_range false n.M a && in_range false n.M b))
    ∷ stage NotInOrder (failing (ltb a (left_at n k) && ltb b (left_at n k)))
    ∷ stage BadVector (failing_at 4 (eqb len (n.M + 1)))
    ∷ []

-- the call: given tables, of which the gates' is lent for writing, the gate's number, its right sides, and the
-- values, which are written over
pub record RewireEntry : Type 0 where
  pub circuit : Given
  pub gate : ℕ
  pub rhs0 : ℕ
  pub rhs1 : ℕ
  pub values : List ℕ

pub record RewireExit : Type 0 where
  pub answer : Result Unit Refusal
  pub gates : List ℕ
  pub scratch : List ℕ
  pub values : List ℕ

-- two words of the gates' table change; a refusal leaves it as it came
abbrev pub rewired_by : Option Refusal → RewireEntry → RewireExit
rewired_by None e = record {
  answer = Ok tt;
  gates = put e.circuit.tables.gates (3 * e.gate + 1) (max e.rhs0 e.rhs1 ∷ min e.rhs0 e.rhs1 ∷ []);
  scratch = cleared e.circuit.scratch;
  values = rewired_screen (given_circuit e.circuit) e.gate e.rhs0 e.rhs1 e.values;
}
rewired_by (Some r) e = record {
  answer = Err r;
  gates = e.circuit.tables.gates;
  scratch = cleared e.circuit.scratch;
  values = e.values;
}

abbrev pub rewiring : RewireEntry → RewireExit
rewiring e =
    let g = e.circuit in
    rewired_by (first_of (in_order_then g
    (edit_stages g.counts e.gate e.rhs0 e.rhs1 (length e.values)
    ++ (stage WrongValue (wrong_on (given_circuit g) e.values) ∷ [])))) e
