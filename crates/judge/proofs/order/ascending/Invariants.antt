-- Every gate passed rises.
use mathlib.Core.Bool.{true}
use mathlib.Core.Path.{◌≡◌}
use Rattle.laws.proofs.Running.Ascending.{ascends}
use Rattle.laws.proofs.Tables.{gates_at}
use Rattle.judge.proofs.order.ascending.Given as goal

abbrev pub invariant-loop-i : goal.invariant-loop-i
invariant-loop-i l = ascends (gates_at l.gates l.i) ≡ true
