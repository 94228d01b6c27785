-- What is asked where nothing is refused: tables that hold an accepted circuit in binary order, room in scratch,
-- and vectors of the right length.
use Rattle.std.specs.Prelude.{ℕ, ◌≡◌, List, map, length}
use Rattle.plan.specs.declared.Counts.{Counts}
use Rattle.plan.specs.Circuit.{Circuit, Tables}
use Rattle.plan.specs.Step.{code_of, value_of, outputs_of, next_of}
use Rattle.tables.specs.Held.{Scratch}
use Rattle.step.specs.sweep.Running.{these, Runs}

pub record Room (n : Counts) (latches outputs gates scratch : List ℕ) : Type 0 where
  pub others : Tables
  pub runs : Runs n (these others latches outputs gates)
  pub scratch-long : Scratch n scratch

-- a state, inputs and outputs
pub record Vectors (n : Counts) (state ins outs : List ℕ) : Type 0 where
  pub state-length : length state ≡ n.L
  pub inputs-length : length ins ≡ n.I
  pub outputs-length : length outs ≡ n.O

-- what a step leaves in the buffers
pub record Leaves (c : Circuit) (state ins state' outs' : List ℕ) : Type 0 where
  pub next : state' ≡ map code_of (next_of c (map value_of state) (map value_of ins))
  pub outputs : outs' ≡ map code_of (outputs_of c (map value_of state) (map value_of ins))
