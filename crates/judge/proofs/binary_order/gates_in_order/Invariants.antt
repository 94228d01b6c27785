-- The gates that are left decide.
use mathlib.Core.Path.{◌≡◌}
use mathlib.Core.Bool.{◌&&◌}
use mathlib.Core.List.{map}
use Rattle.plan.specs.Circuit.{gate_of, rows_of}
use Rattle.plan.specs.Binary.{runs, falls}
use Rattle.judge.proofs.binary_order.Steps.{order_left}
use Rattle.judge.proofs.binary_order.gates_in_order.Given as goal

abbrev pub invariant-loop-i : goal.invariant-loop-i
invariant-loop-i l = (runs l.first (rows_of 3 l.n l.gates) && falls (map gate_of (rows_of 3 l.n l.gates))) ≡ order_left l.gates l.first l.n l.i
