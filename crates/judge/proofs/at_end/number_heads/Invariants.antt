-- The rows passed have their numbers.
use mathlib.Core.Path.{◌≡◌}
use Rattle.judge.specs.at_end.Leaves.{with_heads}
use Rattle.judge.proofs.at_end.number_heads.Given as goal

abbrev pub invariant-loop-i : goal.invariant-loop-i
invariant-loop-i l = l.t ≡ with_heads l.table l.stride l.first l.i l.initial.t
