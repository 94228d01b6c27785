-- Unused gates: every gate that no output, next state, bad state or constraint reaches is dropped, and the gaps are
-- closed in order.
use Rattle.std.specs.Prelude.{ℕ, ◌+◌, cond, List, [], ◌∷◌, ◌++◌, map, length}
use Rattle.plan.specs.Literals.{var_of}
use Rattle.plan.specs.Circuit.{Gate, Latch, Circuit, vars, left_vars, roots, has, leaves}
use Rattle.plan.specs.Refusals.{first_of}
use Rattle.plan.specs.Given.{given_circuit, lent_with, stages, order_stage}
use Rattle.plan.specs.Convert.{renumber, renumber_gates}
use Rattle.plan.specs.Outcome.{MakeEntry, MakeExit, made_by}
use Rattle.plan.specs.Walk.{Walked, walk}

-- a gate reaches both right sides
abbrev pub sides_of : Gate → List ℕ
sides_of g = var_of g.rhs0 ∷ var_of g.rhs1 ∷ []

-- v is reached by a literal that is observed or by a next state, in any number of steps
abbrev pub Reached : Circuit → ℕ → Type 0
Reached c v = Walked sides_of c.gates (vars (roots c)) v

abbrev pub reached : Circuit → List ℕ
reached c = walk sides_of c.gates (vars (roots c))

-- the gates of some variables
abbrev pub gates_of : List ℕ → List Gate → List Gate
gates_of vs [] = []
gates_of vs (g ∷ gs) = let more = gates_of vs gs in cond (has (var_of g.lhs) vs) (g ∷ more) more

abbrev pub used : Circuit → Circuit
used c = record {
  M = c.M;
  inputs = c.inputs;
  latches = c.latches;
  resets = c.resets;
  outputs = c.outputs;
  bads = c.bads;
  constraints = c.constraints;
  gates = gates_of (reached c) c.gates;
}

-- the variables that are left, in order: each gets its place as its number
abbrev pub left : Circuit → List ℕ
left c = leaves c ++ left_vars c.gates

abbrev pub latch_renumbered : List ℕ → Latch → Latch
latch_renumbered os l = record { current = l.current; next = renumber os l.next }

-- next states, outputs, bad states, constraints and gates follow; inputs, latches and resets stay
abbrev pub close_gaps : Circuit → Circuit
close_gaps c = record {
  M = length c.inputs + length c.latches + length c.gates;
  inputs = c.inputs;
  latches = map (latch_renumbered (left c)) c.latches;
  resets = c.resets;
  outputs = map (renumber (left c)) c.outputs;
  bads = map (renumber (left c)) c.bads;
  constraints = map (renumber (left c)) c.constraints;
  gates = renumber_gates (left c) (1 + length c.inputs + length c.latches) c.gates;
}

abbrev pub drop_unused : Circuit → Circuit
drop_unused c = close_gaps (used c)

-- the call, with the reducer's refusals
abbrev pub dropping : MakeEntry → MakeExit
dropping e =
    let g = e.circuit in
    made_by (first_of (stages g (lent_with g e.written) ++ (order_stage g ∷ []))) e (drop_unused (given_circuit g))
