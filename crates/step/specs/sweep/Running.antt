-- A step over words: the constant's, the inputs' and the latches' from the start on; from word M + 1 on the
-- outputs', and past these a word for each literal.
use Rattle.std.specs.Prelude.{ℕ, ◌+◌, ◌≤◌, ◌≡◌, true, List, [], ◌∷◌, length, get_or, take, drop}
use Rattle.plan.specs.declared.Counts.{Counts}
use Rattle.plan.specs.Literals.{var_of}
use Rattle.plan.specs.Circuit.{Circuit, Tables, counts_of, circuit_of, seven}
use Rattle.plan.specs.Binary.{binary_order}
use Rattle.plan.specs.Reading.{WellFormed}
use Rattle.plan.specs.Step.{Value, v0, lit, values_of, outputs_of, next_of}
use Rattle.laws.proofs.Running.Upward.{given}
use Rattle.tables.specs.Held.{Fits, Scratch}
use Rattle.step.specs.values.Words.{may1, words}

-- tables of which latches, outputs and gates are these: a step is lent no others
abbrev pub these : Tables → List ℕ → List ℕ → List ℕ → Tables
these x latches outputs gates = seven x.inputs latches outputs gates x.resets x.bads x.constraints

-- tables that hold an accepted circuit in binary order
pub record Runs (n : Counts) (x : Tables) : Type 0 where
  pub fits : Fits n x.inputs x.latches x.outputs x.gates x.resets x.bads x.constraints
  pub counts : counts_of (circuit_of n x) ≡ n
  pub formed : WellFormed (circuit_of n x)
  pub order : binary_order (circuit_of n x) ≡ true

-- the constant and a state, between two steps
pub record Rests (n : Counts) (s : List Value) (t : List ℕ) : Type 0 where
  pub zero : take 1 t ≡ words (v0 ∷ [])
  pub state : take n.L (drop (1 + n.I) t) ≡ words s

-- the leaves' values before a step
pub record Stands (n : Counts) (s i : List Value) (t : List ℕ) : Type 0 where
  pub state-length : length s ≡ n.L
  pub inputs-length : length i ≡ n.I
  pub leaves : take (1 + n.I + n.L) t ≡ words (given s i)

-- where the literals' words start
abbrev pub lits_of : Counts → ℕ
lits_of n = n.M + 1 + n.O

-- what a step leaves: the literals' words too
pub record Stepped (n : Counts) (c : Circuit) (s i : List Value) (t : List ℕ) : Type 0 where
  pub rests : Rests n (next_of c s i) t
  pub outputs : take n.O (drop (n.M + 1) t) ≡ words (outputs_of c s i)
  pub literals : (l : ℕ) → var_of l ≤ n.M → get_or t (lits_of n + l) 0 ≡ may1 (lit (values_of c s i) l)

-- what a step asks
pub record Ready (n : Counts) (latches outputs gates t : List ℕ) : Type 0 where
  pub others : Tables
  pub state : List Value
  pub ins : List Value
  pub runs : Runs n (these others latches outputs gates)
  pub scratch : Scratch n t
  pub stands : Stands n state ins t
