-- 5 in two parts: tables 1 to 4, then 7 to 9; and the room that each part asks.
use Rattle.std.specs.Prelude.{ℕ, ◌*◌, ◌≤◌, true, false, List, map, length, Option}
use Rattle.plan.specs.declared.Counts.{Counts}
use Rattle.plan.specs.Literals.{most}
use Rattle.plan.specs.Circuit.{Circuit, one_line, latch_line, gate_line, resets_ok}
use Rattle.plan.specs.Given.{or_else, failing_at, outside_of}

abbrev pub outside_first : Circuit → Option ℕ
outside_first c =
    or_else (outside_of 1 true c.M (map one_line c.inputs))
    (or_else (outside_of 2 true c.M (map latch_line c.latches))
    (or_else (outside_of 3 false c.M (map one_line c.outputs))
    (outside_of 4 true c.M (map gate_line c.gates))))

abbrev pub outside_last : Circuit → Option ℕ
outside_last c =
    or_else (failing_at 7 (resets_ok c.latches c.resets))
    (or_else (outside_of 8 false c.M (map one_line c.bads))
    (outside_of 9 false c.M (map one_line c.constraints)))

pub record FirstRoom (n : Counts) (inputs latches outputs gates : List ℕ) : Type 0 where
  pub most-M : n.M ≤ most
  pub inputs_long : n.I ≤ length inputs
  pub latches-long : 2 * n.L ≤ length latches
  pub outputs-long : n.O ≤ length outputs
  pub gates-long : 3 * n.A ≤ length gates

pub record LastRoom (n : Counts) (latches resets bads constraints : List ℕ) : Type 0 where
  pub most-M : n.M ≤ most
  pub latches-long : 2 * n.L ≤ length latches
  pub resets-long : n.L ≤ length resets
  pub bads-long : n.B ≤ length bads
  pub constraints-long : n.C ≤ length constraints
