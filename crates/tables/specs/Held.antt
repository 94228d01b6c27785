-- The circuit that tables 1 to 4 and 7 to 9 hold, and the room that its counts ask.
use Rattle.std.specs.Prelude.{ℕ, ◌+◌, ◌*◌, ◌≤◌, List, length}
use Rattle.plan.specs.declared.Counts.{Counts}
use Rattle.plan.specs.Literals.{most}
use Rattle.plan.specs.Circuit.{Circuit, seven, circuit_of}

abbrev pub circuit_in : Counts → List ℕ → List ℕ → List ℕ → List ℕ → List ℕ → List ℕ → List ℕ → Circuit
circuit_in n inputs latches outputs gates resets bads constraints =
    circuit_of n (seven inputs latches outputs gates resets bads constraints)

-- counts that 2 and 3 let pass, and tables that are long enough
pub record Fits (n : Counts) (inputs latches outputs gates resets bads constraints : List ℕ) : Type 0 where
  pub most-M : n.M ≤ most
  pub most-O : n.O ≤ most
  pub most-B : n.B ≤ most
  pub most-C : n.C ≤ most
  pub sum : n.I + n.L + n.A ≤ n.M
  pub inputs_long : n.I ≤ length inputs
  pub latches-long : 2 * n.L ≤ length latches
  pub outputs-long : n.O ≤ length outputs
  pub gates-long : 3 * n.A ≤ length gates
  pub resets-long : n.L ≤ length resets
  pub bads-long : n.B ≤ length bads
  pub constraints-long : n.C ≤ length constraints

-- scratch that is long enough
abbrev pub Scratch : Counts → List ℕ → Type 0
Scratch n scratch = 4 * (n.M + 1) + n.O + n.B + n.C ≤ length scratch
