-- Marks of variables in a table: a word is 1 if its variable is in a list, else 0.
use Rattle.std.specs.Prelude.{ℕ, ◌+◌, ◌*◌, ◌<◌, ◌≡◌, Bool, cond, List, get_or}
use Rattle.plan.specs.Literals.{var_of}
use Rattle.plan.specs.Circuit.{Gate, has}

abbrev pub bit : Bool → ℕ
bit t = cond t 1 0

abbrev pub Marked : List ℕ → List ℕ → Type 0
Marked seen t = (v : ℕ) → get_or t v 0 ≡ bit (has v seen)

-- the variable of word `column` of row i, of `stride` words
abbrev pub var_at : List ℕ → ℕ → ℕ → ℕ → ℕ
var_at table stride column i = var_of (get_or table (stride * i + column) 0)

-- a gate's variables have words in a table
pub record Below (n : ℕ) (g : Gate) : Type 0 where
  pub lhs : var_of g.lhs < n
  pub rhs0 : var_of g.rhs0 < n
  pub rhs1 : var_of g.rhs1 < n
