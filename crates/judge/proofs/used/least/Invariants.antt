-- The least so far takes in one word more at each turn.
use mathlib.Core.Path.{◌≡◌}
use Rattle.judge.specs.used.Least.{every, lowest}
use Rattle.judge.proofs.used.least.Given as goal

abbrev pub invariant-loop-i : goal.invariant-loop-i
invariant-loop-i l = l.low ≡ lowest l.marks l.before (every l.table l.start l.stride l.i)
