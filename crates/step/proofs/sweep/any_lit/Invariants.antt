-- Whether one of the first n literals of a table is 1 after a step: what is left to look at answers for all.
use mathlib.Core.Path.{◌≡◌}
use lib.ListN.{drop}
use Rattle.plan.specs.Step.{any1}
use Rattle.step.specs.sweep.Lookup.{seen}
use Rattle.step.proofs.sweep.any_lit.Given as goal

abbrev pub invariant-loop-l : goal.invariant-loop-l
invariant-loop-l l = any1 (seen l.lits l.t l.l-items) ≡ any1 (seen l.lits l.t (drop l.l-index l.l-items))
