-- The used literals that tables hold are of variables that the marks have words for.
use Rattle.std.specs.Prelude.{ℕ, ◌+◌, ◌*◌, ◌≤◌, ◌<◌, List, length, get_or}
use Rattle.plan.specs.declared.Counts.{Counts}
use Rattle.plan.specs.Literals.{most, var_of}

-- the first n words of a table are of variables up to m
abbrev pub WordsUpTo : ℕ → List ℕ → ℕ → Type 0
WordsUpTo m table n = (i : ℕ) → i < n → var_of (get_or table i 0) ≤ m

-- outputs, bad states and constraints
pub record Observed (n : Counts) (outputs bads constraints marks : List ℕ) : Type 0 where
  pub marks-long : n.M < length marks
  pub outputs-long : n.O ≤ length outputs
  pub bads-long : n.B ≤ length bads
  pub constraints-long : n.C ≤ length constraints
  pub outputs-up : WordsUpTo n.M outputs n.O
  pub bads-up : WordsUpTo n.M bads n.B
  pub constraints-up : WordsUpTo n.M constraints n.C

-- and next states and right sides
pub record InReach (n : Counts) (latches outputs gates bads constraints marks : List ℕ) : Type 0 where
  pub most-M : n.M ≤ most
  pub latches-long : 2 * n.L ≤ length latches
  pub gates-long : 3 * n.A ≤ length gates
  pub nexts-up : (i : ℕ) → i < n.L → var_of (get_or latches (2 * i + 1) 0) ≤ n.M
  pub firsts-up : (i : ℕ) → i < n.A → var_of (get_or gates (3 * i + 1) 0) ≤ n.M
  pub seconds-up : (i : ℕ) → i < n.A → var_of (get_or gates (3 * i + 2) 0) ≤ n.M
  pub observed : Observed n outputs bads constraints marks
