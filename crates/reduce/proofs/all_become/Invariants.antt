-- Each turn replaces one literal.
use mathlib.Core.Path.{◌≡◌}
use Rattle.reduce.proofs.Replaced.{done}
use Rattle.reduce.proofs.all_become.Given as goal

abbrev pub invariant-loop-i : goal.invariant-loop-i
invariant-loop-i l = l.to ≡ done l.table l.became l.initial.to l.i
