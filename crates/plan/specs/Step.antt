-- Stepping in 0, 1 and x, for any order of gates; the witness question in three values.
use Rattle.std.specs.Prelude.{ℕ, zero, suc, Bool, true, false, cond, ◌&&◌, ◌||◌, List, [], ◌∷◌, ◌++◌, map, eqb, length, get_or, Option, Some, None}
use Rattle.plan.specs.Literals.{var_of, sign_of}
use Rattle.plan.specs.Circuit.{Gate, Circuit, nexts, rows_of, leaves, index}
use Rattle.plan.specs.Depends.{find}

pub data Value : Type 0 where
  v0 v1 vx : Value

-- "0", "1", "x"
abbrev pub code_of : Value → ℕ
code_of v0 = 48
code_of v1 = 49
code_of vx = 120

abbrev pub value_of : ℕ → Value
value_of b = cond (eqb b 48) v0 (cond (eqb b 49) v1 vx)

abbrev pub is_code : ℕ → Bool
is_code b = eqb b 48 || (eqb b 49 || eqb b 120)

-- two values are the same; x is the same as x alone
abbrev pub same : Value → Value → Bool
same a b = eqb (code_of a) (code_of b)

-- 0 and 1 exchange, x stays
abbrev pub inv : Value → Value
inv v0 = v1
inv v1 = v0
inv vx = vx

-- 0 if either is 0, 1 if both are 1, else x: the table of nine entries
abbrev pub and : Value → Value → Value
and v0 v0 = v0
and v0 v1 = v0
and v0 vx = v0
and v1 v0 = v0
and v1 v1 = v1
and v1 vx = vx
and vx v0 = v0
and vx v1 = vx
and vx vx = vx

abbrev pub signed_value : ℕ → Value → Value
signed_value zero a = a
signed_value (suc s) a = inv a

-- the value of a literal, from the values of variables
abbrev pub lit : (ℕ → Value) → ℕ → Value
lit w l = signed_value (sign_of l) (w (var_of l))

-- a variable's value, if the variables' values are w: the And of its gate's two right sides, or what it is given
abbrev pub gate_value : (ℕ → Value) → Value → Option Gate → Value
gate_value w a None = a
gate_value w a (Some g) = and (lit w g.rhs0) (lit w g.rhs1)

-- the value of variable v, looking k gates deep; as many as there are gates is no limit, since no gate depends on itself: the values are
-- those of the gates' own right sides, and there are no others (laws, Running.Values: value-solves, unique)
abbrev pub value_in : List Gate → (ℕ → Value) → ℕ → ℕ → Value
value_in gs e zero v = e v
value_in gs e (suc k) v = gate_value (λ u. value_in gs e k u) (e v) (find v gs)

-- the constant is 0, and inputs and latches have the values of their places
abbrev pub leaf_value : Circuit → List Value → List Value → ℕ → Value
leaf_value c state ins v = get_or (v0 ∷ (ins ++ state)) (index v (leaves c)) vx

-- the values of all variables in a step
abbrev pub values_of : Circuit → List Value → List Value → ℕ → Value
values_of c state ins = value_in c.gates (leaf_value c state ins) (length c.gates)

abbrev pub outputs_of : Circuit → List Value → List Value → List Value
outputs_of c state ins = map (lit (values_of c state ins)) c.outputs

abbrev pub bads_of : Circuit → List Value → List Value → List Value
bads_of c state ins = map (lit (values_of c state ins)) c.bads

abbrev pub constraints_of : Circuit → List Value → List Value → List Value
constraints_of c state ins = map (lit (values_of c state ins)) c.constraints

-- all latches take their next values at once
abbrev pub next_of : Circuit → List Value → List Value → List Value
next_of c state ins = map (lit (values_of c state ins)) (nexts c.latches)

pub record Step : Type 0 where
  pub state : List Value
  pub inputs : List Value
  pub outputs : List Value
  pub bads : List Value
  pub constraints : List Value
  pub next : List Value

abbrev pub step_of : Circuit → List Value → List Value → Step
step_of c state ins = record {
  state = state;
  inputs = ins;
  outputs = outputs_of c state ins;
  bads = bads_of c state ins;
  constraints = constraints_of c state ins;
  next = next_of c state ins;
}

abbrev pub run : Circuit → List Value → List (List Value) → List Step
run c state [] = []
run c state (ins ∷ list) = step_of c state ins ∷ run c (next_of c state ins) list

-- the first state is that of the resets; a latch's own literal is x
abbrev pub reset_value : ℕ → Value
reset_value r = cond (eqb r 0) v0 (cond (eqb r 1) v1 vx)

abbrev pub first_state : Circuit → List Value
first_state c = map reset_value c.resets

-- a list is given as a number of vectors and its bytes, I for each
abbrev pub vectors_of : Circuit → ℕ → List ℕ → List (List Value)
vectors_of c number bytes = map (map value_of) (rows_of (length c.inputs) number bytes)

-- the witness question in three values: 1 on some output or bad state at some step, every constraint being 1 there
-- and at all steps before
abbrev pub is1 : Value → Bool
is1 v0 = false
is1 v1 = true
is1 vx = false

abbrev pub any1 : List Value → Bool
any1 [] = false
any1 (a ∷ l) = is1 a || any1 l

abbrev pub all1 : List Value → Bool
all1 [] = true
all1 (a ∷ l) = is1 a && all1 l

abbrev pub shows1 : List Step → Bool
shows1 [] = false
shows1 (s ∷ steps) = all1 s.constraints && (any1 s.outputs || (any1 s.bads || shows1 steps))

abbrev pub witnessed : Circuit → ℕ → List ℕ → Bool
witnessed c number bytes = shows1 (run c (first_state c) (vectors_of c number bytes))
