-- Values of variables as bytes, one for each, and what the loops over gates ask of the gates' table.
use Rattle.std.specs.Prelude.{ℕ, ◌+◌, ◌*◌, ◌<◌, ◌≤◌, ◌≡◌, List, length, get_or}
use Rattle.plan.specs.declared.Counts.{Counts}
use Rattle.plan.specs.Literals.{most, var_of}
use Rattle.plan.specs.Step.{Value, code_of, and, lit}
use Rattle.laws.proofs.Tables.{gate_at, gates_at}
use Rattle.laws.proofs.Running.Binary.{Binary}

-- the bytes of the variables below n are the values w
abbrev pub Shows : (ℕ → Value) → ℕ → List ℕ → Type 0
Shows w n bytes = (v : ℕ) → v < n → get_or bytes v 0 ≡ code_of (w v)

-- from gate k on, each gate's value is the And of its right sides'
pub record Follows (w : ℕ → Value) (gates : List ℕ) (base k a : ℕ) : Type 0 where
  pub holds : (j : ℕ) → k < j + 1 → j < a → w (base + j)
      ≡ and (lit w (gate_at gates j).rhs0) (lit w (gate_at gates j).rhs1)

-- gate j has a row, and both its right sides have a byte
pub record Row (gates : List ℕ) (j : ℕ) (values : List ℕ) : Type 0 where
  pub fits : 3 * j + 3 ≤ length gates
  pub rhs0 : var_of (gate_at gates j).rhs0 < length values
  pub rhs1 : var_of (gate_at gates j).rhs1 < length values

-- a gates in binary order from variable `base` on, and a byte for each variable
pub record Ordered (gates : List ℕ) (a base : ℕ) (values : List ℕ) : Type 0 where
  pub gates-long : 3 * a ≤ length gates
  pub values-long : base + a ≤ length values
  pub binary : Binary base (gates_at gates a)

-- counts that are not refused
pub record Counted (n : Counts) : Type 0 where
  pub sum : n.I + n.L + n.A ≤ n.M
  pub most-M : n.M ≤ most
