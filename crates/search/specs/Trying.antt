-- What a try asks, and what it does.
use Rattle.std.specs.Prelude.{ℕ, ◌≤◌, cond, List}
use Rattle.plan.specs.declared.Counts.{Counts}
use Rattle.plan.specs.Circuit.{seven}
use Rattle.tables.specs.Held.{Scratch}
use Rattle.step.specs.sweep.Running.{Runs}
use Rattle.plan.specs.Search.{System}
use Rattle.search.specs.declared.Attempt.{Attempt}
use Rattle.search.specs.declared.Attempt.TheVariants.{Barred, Seen, To}

-- tables that hold an accepted circuit in binary order, of few latches and inputs, and scratch that is long enough
pub record Tries (n : Counts) (latches outputs gates bads constraints scratch : List ℕ) : Type 0 where
  pub inputs : List ℕ
  pub resets : List ℕ
  pub runs : Runs n (seven inputs latches outputs gates resets bads constraints)
  pub scratch-long : Scratch n scratch
  pub few-latches : n.L ≤ 20
  pub few-inputs : n.I ≤ 20

abbrev pub attempt : System → ℕ → ℕ → Attempt
attempt y s m = cond (y.allows s m) (cond (y.shows s m) Seen (To (y.next s m))) Barred
