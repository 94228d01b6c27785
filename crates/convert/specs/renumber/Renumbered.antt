-- Literals and gates under the numbers that a table has for their variables, and the table of the gates' new rows.
use Rattle.std.specs.Prelude.{ℕ, ◌+◌, ◌-◌, ◌*◌, ◌<◌, ◌≤◌, ◌≡◌, List, length, get_or, set}
use Rattle.plan.specs.Literals.{lit_of, var_of, sign_of}
use Rattle.plan.specs.Circuit.{Gate}
use Rattle.plan.specs.Convert.{gate_for}
use Rattle.laws.proofs.Tables.{gate_at}

-- the number of a literal's variable, and the literal under it
abbrev pub number_in : List ℕ → ℕ → ℕ
number_in t l = get_or t (var_of l) 0

unfoldable pub literal_by : List ℕ → ℕ → ℕ
literal_by t l = lit_of (number_in t l) + sign_of l

-- the table has a word for the literal's variable, and no bit is cut of the literal under it
abbrev pub Known : List ℕ → ℕ → Type 0
Known t l = (var_of l < length t) × (number_in t l < 2147483648)

-- word `column` of row i
abbrev pub word_at : List ℕ → ℕ → ℕ → ℕ → ℕ
word_at table stride column i = get_or table (stride * i + column) 0

abbrev pub column_by : List ℕ → List ℕ → ℕ → ℕ → ℕ → ℕ
column_by t table stride column i = literal_by t (word_at table stride column i)

-- a gate under its variable's number, larger right side first; its row, where the first gate's number is `first`
unfoldable pub gate_by : List ℕ → Gate → Gate
gate_by t g = gate_for (number_in t g.lhs) (literal_by t g.rhs0) (literal_by t g.rhs1)

unfoldable pub row_of : List ℕ → ℕ → Gate → ℕ
row_of t first g = number_in t g.lhs - first

abbrev pub with_gate : List ℕ → ℕ → Gate → List ℕ
with_gate to row g = set (set (set to (3 * row) g.lhs) (3 * row + 1) g.rhs0) (3 * row + 2) g.rhs1

abbrev pub placed : List ℕ → ℕ → List ℕ → Gate → List ℕ
placed t first to g = with_gate to (row_of t first g) (gate_by t g)

-- a gate whose literals the table knows, and whose row is one of a
pub record Placeable (t : List ℕ) (first a : ℕ) (g : Gate) : Type 0 where
  pub lhs : Known t g.lhs
  pub rhs0 : Known t g.rhs0
  pub rhs1 : Known t g.rhs1
  pub from : first ≤ number_in t g.lhs
  pub below : number_in t g.lhs < first + a

-- a table that has each gate in its row, a gate for each row, and is as `to` past them
pub record Whole (gates t : List ℕ) (first a : ℕ) (to made : List ℕ) : Type 0 where
  pub size : length made ≡ length to
  pub rows : (i : ℕ) → i < a → gate_at made (row_of t first (gate_at gates i)) ≡ gate_by t (gate_at gates i)
  pub every : (j : ℕ) → j < a → (i : ℕ) × (i < a) × (row_of t first (gate_at gates i) ≡ j)
  pub rest : (q : ℕ) → 3 * a ≤ q → get_or made q 0 ≡ get_or to q 0
