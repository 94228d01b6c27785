-- The lengths of lent tables, and an answer's table.
use Rattle.std.specs.Prelude.{ℕ, suc, zero, min, List, [], ◌∷◌, length, Option, Some, None}
use Rattle.plan.specs.Circuit.{Tables}
use Rattle.tables.specs.declared.Sizes.{Sizes}

-- tables of these sizes, and scratch, as a list of tables 1 to 9; there is no table 6
abbrev pub lengths_in : Sizes → ℕ → List ℕ
lengths_in to scratch =
    to.inputs ∷ to.latches ∷ to.outputs ∷ to.gates ∷ scratch ∷ 0 ∷ to.resets ∷ to.bads ∷ to.constraints ∷ []

abbrev pub sizes_of : Tables → Sizes
sizes_of t = record {
  inputs = length t.inputs;
  latches = length t.latches;
  outputs = length t.outputs;
  gates = length t.gates;
  resets = length t.resets;
  bads = length t.bads;
  constraints = length t.constraints;
}

-- of two tables that bear one number the shorter
abbrev pub shorter_of : Sizes → Sizes → Sizes
shorter_of a b = record {
  inputs = min a.inputs b.inputs;
  latches = min a.latches b.latches;
  outputs = min a.outputs b.outputs;
  gates = min a.gates b.gates;
  resets = min a.resets b.resets;
  bads = min a.bads b.bads;
  constraints = min a.constraints b.constraints;
}

-- 0: no table
abbrev pub table_of : ℕ → Option ℕ
table_of zero = None
table_of (suc t) = Some (suc t)
