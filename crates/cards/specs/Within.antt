-- The counts that four bytes hold.
use Rattle.std.specs.Prelude.{◌<◌}
use Rattle.plan.specs.declared.Counts.{Counts}

-- counts of 32 bits
pub record Within (n : Counts) : Type 0 where
  pub small-M : n.M < 4294967296
  pub small-I : n.I < 4294967296
  pub small-L : n.L < 4294967296
  pub small-O : n.O < 4294967296
  pub small-A : n.A < 4294967296
