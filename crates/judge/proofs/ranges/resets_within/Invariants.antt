-- The latches that are left decide.
use mathlib.Core.Path.{◌≡◌}
use mathlib.Core.List.{map}
use lib.ListN.{take}
use Rattle.plan.specs.Circuit.{latch_of, rows_of, resets_ok}
use Rattle.judge.proofs.ranges.Steps.{resets_left}
use Rattle.judge.proofs.ranges.resets_within.Given as goal

abbrev pub invariant-loop-i : goal.invariant-loop-i
invariant-loop-i l = resets_ok (map latch_of (rows_of 2 l.n l.latches)) (take l.n l.resets) ≡ resets_left l.latches l.resets l.n l.i
