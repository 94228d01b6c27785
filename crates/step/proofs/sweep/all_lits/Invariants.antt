-- Whether all of them are: what is left to look at answers for all.
use mathlib.Core.Path.{◌≡◌}
use lib.ListN.{drop}
use Rattle.plan.specs.Step.{all1}
use Rattle.step.specs.sweep.Lookup.{seen}
use Rattle.step.proofs.sweep.all_lits.Given as goal

abbrev pub invariant-loop-l : goal.invariant-loop-l
invariant-loop-l l = all1 (seen l.lits l.t l.l-items) ≡ all1 (seen l.lits l.t (drop l.l-index l.l-items))
