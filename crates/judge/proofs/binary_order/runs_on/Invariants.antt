-- The rows that are left decide.
use mathlib.Core.Path.{◌≡◌}
use Rattle.plan.specs.Circuit.{rows_of}
use Rattle.plan.specs.Binary.{runs}
use Rattle.judge.proofs.binary_order.Steps.{runs_left}
use Rattle.judge.proofs.binary_order.runs_on.Given as goal

abbrev pub invariant-loop-i : goal.invariant-loop-i
invariant-loop-i l = runs l.first (rows_of l.stride l.n l.table) ≡ runs_left l.table l.stride l.first l.n l.i
