-- A table of numbers: for each variable its number, which is its place in the order; 0 for one that has none yet,
-- and for the constant.
use Rattle.std.specs.Prelude.{ℕ, ◌<◌, ◌≡◌, Bool, not, cond, ◌&&◌, ◌||◌, List, eqb, length, get_or}
use Rattle.plan.specs.Literals.{var_of}
use Rattle.plan.specs.Circuit.{Gate, has, index}
use Rattle.laws.proofs.Tables.{gate_at}

-- each variable's place in o, and 0 for those that are not in it
unfoldable pub NumTable : List ℕ → List ℕ → Type 0
NumTable o num = (v : ℕ) → v < length num → get_or num v 0 ≡ cond (has v o) (index v o) 0

unfoldable pub numbered_t : List ℕ → ℕ → Bool
numbered_t num v = eqb v 0 || not (eqb (get_or num v 0) 0)

-- a gate whose left side has no number and whose right sides have
unfoldable pub ready_t : List ℕ → Gate → Bool
ready_t num g =
    not (numbered_t num (var_of g.lhs)) && (numbered_t num (var_of g.rhs0) && numbered_t num (var_of g.rhs1))

-- a gate's variables are below n; those of the first a gates
abbrev pub InTable : ℕ → Gate → Type 0
InTable n g = (var_of g.lhs < n) × (var_of g.rhs0 < n) × (var_of g.rhs1 < n)

abbrev pub InRange : ℕ → List ℕ → ℕ → Type 0
InRange n gates a = (i : ℕ) → i < a → InTable n (gate_at gates i)
