-- Conversion.
use Rattle.std.specs.Prelude.{ℕ, zero, suc, ◌+◌, max, min, Bool, cond, ◌&&◌, List, [], ◌∷◌, ◌++◌, map, length, Option, Some, None}
use Rattle.plan.specs.Literals.{lit_of, var_of, sign_of}
use Rattle.plan.specs.Circuit.{Gate, Circuit, left_vars, nexts, has, leaves, index}
use Rattle.plan.specs.Binary.{lits_from, latches_from}

-- both right sides are numbered; constants, inputs and latches, the leaves, count as numbered
abbrev pub ready : List ℕ → Gate → Bool
ready numbered g = has (var_of g.rhs0) numbered && has (var_of g.rhs1) numbered

-- the first gate in file order that is ready, and the gates still without a number
pub record Picked : Type 0 where
  pub gate : Gate
  pub rest : List Gate

abbrev pub past : Gate → Option Picked → Option Picked
past g None = None
past g (Some p) = Some (record { gate = p.gate; rest = g ∷ p.rest })

abbrev pub pick : List ℕ → List Gate → Option Picked
pick numbered [] = None
pick numbered (g ∷ gs) = cond (ready numbered g) (Some (record { gate = g; rest = gs })) (past g (pick numbered gs))

-- the gates in the order of their numbers, of which k are given; with k the number of gates every one of an accepted circuit gets its
-- number (laws, Running.Scan: every-gate)
abbrev pub order_by : (List ℕ → List Gate → List Gate) → List ℕ → Option Picked → List Gate
order_by f numbered None = []
order_by f numbered (Some p) = p.gate ∷ f (numbered ++ (var_of p.gate.lhs ∷ [])) p.rest

abbrev pub order : ℕ → List ℕ → List Gate → List Gate
order zero numbered gs = []
order (suc k) numbered gs = order_by (λ n rest. order k n rest) numbered (pick numbered gs)

abbrev pub sorted : Circuit → List Gate
sorted c = order (length c.gates) (leaves c) c.gates

-- the variables in the order of their new numbers
abbrev pub numbered : Circuit → List ℕ
numbered c = leaves c ++ left_vars (sorted c)

-- a literal under its new number
abbrev pub renumber : List ℕ → ℕ → ℕ
renumber os l = lit_of (index (var_of l) os) + sign_of l

-- the gate of variable v, larger right side first
abbrev pub gate_for : ℕ → ℕ → ℕ → Gate
gate_for v a b = record { lhs = lit_of v; rhs0 = max a b; rhs1 = min a b }

abbrev pub renumber_gates : List ℕ → ℕ → List Gate → List Gate
renumber_gates os v [] = []
renumber_gates os v (g ∷ gs) = gate_for v (renumber os g.rhs0) (renumber os g.rhs1) ∷ renumber_gates os (suc v) gs

-- inputs get variables 1 .. I in list order, latches the next, then gates; resets that are literals of latches follow
abbrev pub convert : Circuit → Circuit
convert c = record {
  M = length c.inputs + length c.latches + length c.gates;
  inputs = lits_from 1 (length c.inputs);
  latches = latches_from (1 + length c.inputs) (map (renumber (numbered c)) (nexts c.latches));
  resets = map (renumber (numbered c)) c.resets;
  outputs = map (renumber (numbered c)) c.outputs;
  bads = map (renumber (numbered c)) c.bads;
  constraints = map (renumber (numbered c)) c.constraints;
  gates = renumber_gates (numbered c) (1 + length c.inputs + length c.latches) (sorted c);
}
