-- Given tables that 2 and 4 let pass: counts within the limit, tables long enough.
use Rattle.std.specs.Prelude.{ℕ, ◌*◌, ◌≤◌, List, length}
use Rattle.plan.specs.declared.Counts.{Counts}
use Rattle.plan.specs.Literals.{most}

pub record Long (n : Counts) (inputs latches gates : List ℕ) : Type 0 where
  pub most-M : n.M ≤ most
  pub most-I : n.I ≤ most
  pub most-L : n.L ≤ most
  pub most-O : n.O ≤ most
  pub most-A : n.A ≤ most
  pub inputs_long : n.I ≤ length inputs
  pub latches-long : 2 * n.L ≤ length latches
  pub gates-long : 3 * n.A ≤ length gates
