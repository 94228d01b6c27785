-- Reduction, on a converted circuit.
use Rattle.std.specs.Prelude.{ℕ, suc, ◌+◌, max, min, cond, ◌&&◌, ◌||◌, List, [], ◌∷◌, ◌++◌, map, eqb, length, get_or, Option, Some, None}
use Rattle.plan.specs.Literals.{lit_of, var_of, sign_of, neg_of, signed}
use Rattle.plan.specs.Circuit.{Gate, Latch, Circuit}
use Rattle.plan.specs.Binary.{lits_from}
use Rattle.plan.specs.Convert.{gate_for}

-- what each variable became, the gates retained, the next variable
pub record Reduced : Type 0 where
  pub became : List ℕ
  pub retained : List Gate
  pub fresh : ℕ

-- what a literal became
abbrev pub becomes : List ℕ → ℕ → ℕ
becomes m l = signed (sign_of l) (get_or m (var_of l) 0)

-- an earlier retained gate with the same pair
abbrev pub twin : ℕ → ℕ → List Gate → Option ℕ
twin a b [] = None
twin a b (g ∷ gs) = cond (eqb g.rhs0 a && eqb g.rhs1 b) (Some g.lhs) (twin a b gs)

-- the literal that stands in for a gate, if one does: equal sides give that side; a side and its negation give 0; a
-- side 0 gives 0; a side 1 gives the other; otherwise, larger first, an earlier retained gate with the same pair
abbrev pub stand_in : ℕ → ℕ → List Gate → Option ℕ
stand_in a b retained =
    cond (eqb a b) (Some a)
    (cond (eqb a (neg_of b)) (Some 0)
    (cond (eqb a 0 || eqb b 0) (Some 0)
    (cond (eqb a 1) (Some b)
    (cond (eqb b 1) (Some a)
    (twin (max a b) (min a b) retained)))))

-- otherwise the gate is retained with the next variable
abbrev pub retain : Reduced → ℕ → ℕ → Option ℕ → Reduced
retain r a b (Some l) = record { became = r.became ++ (l ∷ []); retained = r.retained; fresh = r.fresh }
retain r a b None = record {
  became = r.became ++ (lit_of r.fresh ∷ []);
  retained = r.retained ++ (gate_for r.fresh a b ∷ []);
  fresh = suc r.fresh;
}

abbrev pub reduce_gate : Reduced → ℕ → ℕ → Reduced
reduce_gate r a b = retain r a b (stand_in a b r.retained)

-- gates in order, right sides first replaced by what they became
abbrev pub reduce_gates : Reduced → List Gate → Reduced
reduce_gates r [] = r
reduce_gates r (g ∷ gs) = reduce_gates (reduce_gate r (becomes r.became g.rhs0) (becomes r.became g.rhs1)) gs

abbrev pub reduced : Circuit → Reduced
reduced c =
    let n = 1 + length c.inputs + length c.latches in
    reduce_gates (record { became = lits_from 0 n; retained = []; fresh = n }) c.gates

-- next states, outputs, bad states and constraints follow; resets stay
abbrev pub latch_becomes : List ℕ → Latch → Latch
latch_becomes m l = record { current = l.current; next = becomes m l.next }

abbrev pub reduce : Circuit → Circuit
reduce c = record {
  M = length c.inputs + length c.latches + length (reduced c).retained;
  inputs = c.inputs;
  latches = map (latch_becomes (reduced c).became) c.latches;
  resets = c.resets;
  outputs = map (becomes (reduced c).became) c.outputs;
  bads = map (becomes (reduced c).became) c.bads;
  constraints = map (becomes (reduced c).became) c.constraints;
  gates = (reduced c).retained;
}
