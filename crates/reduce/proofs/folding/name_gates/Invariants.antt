-- Each turn stores one left side.
use Prim.Native.Nat.{◌*◌}
use mathlib.Core.Path.{◌≡◌}
use mathlib.Core.List.{◌++◌}
use lib.ListN.{drop}
use Rattle.reduce.proofs.folding.Loop.{rows}
use Rattle.reduce.proofs.folding.name_gates.Given as goal

abbrev pub invariant-loop-i : goal.invariant-loop-i
invariant-loop-i l = l.to ≡ rows l.base l.initial.to l.i ++ drop (3 * l.i) l.initial.to
