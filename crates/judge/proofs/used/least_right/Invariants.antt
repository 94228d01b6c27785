-- The least so far takes in one gate more at each turn.
use mathlib.Core.Path.{◌≡◌}
use Rattle.plan.specs.Circuit.{rights}
use Rattle.laws.proofs.Tables.{gates_at}
use Rattle.judge.specs.used.Least.{lowest}
use Rattle.judge.proofs.used.least_right.Given as goal

abbrev pub invariant-loop-i : goal.invariant-loop-i
invariant-loop-i l = l.low ≡ lowest l.marks l.before (rights (gates_at l.gates l.i))
