-- The rows that are left decide.
use mathlib.Core.Path.{◌≡◌}
use Rattle.plan.specs.Circuit.{all_inside, rows_of}
use Rattle.judge.proofs.ranges.Steps.{rows_left}
use Rattle.judge.proofs.ranges.rows_within.Given as goal

abbrev pub invariant-loop-i : goal.invariant-loop-i
invariant-loop-i l = all_inside l.defines l.m (rows_of l.k l.n l.table) ≡ rows_left l.defines l.m l.table l.k l.n l.i
