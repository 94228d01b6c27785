-- Each turn stores one variable.
use mathlib.Core.Path.{◌≡◌}
use mathlib.Core.List.{◌++◌}
use lib.ListN.{drop}
use Rattle.plan.specs.Binary.{lits_from}
use Rattle.reduce.proofs.folding.begin.Given as goal

abbrev pub invariant-loop-v : goal.invariant-loop-v
invariant-loop-v l = l.scratch ≡ lits_from 0 l.v ++ drop l.v l.initial.scratch
