-- The first literals of a table, each replaced by what it became.
use Rattle.std.specs.Prelude.{ℕ, ◌≤◌, List, map, length, take}
use Rattle.plan.specs.Reduce.{becomes}
use Rattle.plan.specs.Outcome.{put}
use Rattle.laws.proofs.Running.Binary.{Bounded}

-- n of them are of variables that became something, and there is room for as many
pub record Replaceable (n : ℕ) (table became to : List ℕ) : Type 0 where
  pub table-long : n ≤ length table
  pub to-long : n ≤ length to
  pub low : Bounded (length became) (take n table)

abbrev pub replaced : ℕ → List ℕ → List ℕ → List ℕ → List ℕ
replaced n table became to = put to 0 (map (becomes became) (take n table))
