-- The value of a variable in tables in binary order, and what the plain engine asks of tables and vectors.
use Rattle.std.specs.Prelude.{ℕ, ◌+◌, ◌*◌, ◌≤◌, ◌<◌, ◌≡◌, true, List, map, length, get_or}
use Rattle.plan.specs.declared.Counts.{Counts}
use Rattle.plan.specs.Literals.{most, var_of}
use Rattle.plan.specs.Step.{Value, code_of, value_of, lit, value_in}
use Rattle.plan.specs.Outcome.{all_codes}
use Rattle.laws.proofs.Tables.{firsts, gates_at}
use Rattle.laws.proofs.Running.Binary.{Binary}
use Rattle.laws.proofs.Running.Upward.{given}
use Rattle.laws.proofs.Running.Sweep.{at}

-- the value of variable v: the constant, the inputs and the latches in their places, then the gates
abbrev pub variable_in : Counts → List ℕ → List ℕ → List ℕ → ℕ → Value
variable_in n gates state ins =
    value_in (gates_at gates n.A) (at (given (map value_of state) (map value_of ins))) (length (gates_at gates n.A))

-- gates in binary order, a state and inputs that are codes
pub record Teaches (n : Counts) (gates state ins : List ℕ) : Type 0 where
  pub most-M : n.M ≤ most
  pub sum : n.I + n.L + n.A ≡ n.M
  pub gates-long : 3 * n.A ≤ length gates
  pub ordered : Binary (1 + n.I + n.L) (gates_at gates n.A)
  pub state-length : length state ≡ n.L
  pub inputs-length : length ins ≡ n.I
  pub state-codes : all_codes state ≡ true
  pub inputs-codes : all_codes ins ≡ true

-- the values of outputs and of next states, as codes
abbrev pub output_codes : Counts → List ℕ → List ℕ → List ℕ → List ℕ → List ℕ
output_codes n outputs gates state ins =
    firsts (λ k. code_of (lit (variable_in n gates state ins) (get_or outputs k 0))) n.O

abbrev pub next_codes : Counts → List ℕ → List ℕ → List ℕ → List ℕ → List ℕ
next_codes n latches gates state ins =
    firsts (λ k. code_of (lit (variable_in n gates state ins) (get_or latches (2 * k + 1) 0))) n.L

-- outputs of variables up to M, and a buffer for their values
pub record Outs (n : Counts) (outputs outs : List ℕ) : Type 0 where
  pub literals-long : n.O ≤ length outputs
  pub up : (k : ℕ) → k < n.O → var_of (get_or outputs k 0) ≤ n.M
  pub room : length outs ≡ n.O

-- next states of variables up to M, and a table for their values
pub record Nexts (n : Counts) (latches t : List ℕ) : Type 0 where
  pub literals-long : 2 * n.L ≤ length latches
  pub up : (k : ℕ) → k < n.L → var_of (get_or latches (2 * k + 1) 0) ≤ n.M
  pub room : n.L ≤ length t

-- words that are bytes, as many as a vector has
pub record Bytes (t state : List ℕ) : Type 0 where
  pub long : length state ≤ length t
  pub small : (k : ℕ) → k < length state → get_or t k 0 < 256
