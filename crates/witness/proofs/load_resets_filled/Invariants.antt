-- The same of n resets, whose x are numbered from 0.
use mathlib.Core.Path.{◌≡◌}
use lib.ListN.{get_or, take}
use Rattle.plan.specs.Step.{value_of}
use Rattle.step.specs.values.Words.{word}
use Rattle.step.proofs.values.Filling.{Filled}
use Rattle.plan.specs.Fillings.{x_count, filling}
use Rattle.witness.specs.Asked.{codes_of}
use Rattle.witness.proofs.load_resets_filled.Given as goal

abbrev pub invariant-loop-i : goal.invariant-loop-i
invariant-loop-i l = (l.next ≡ x_count (take l.i (codes_of l.resets l.n)))
    × Filled l.initial.t l.first (λ j. word (value_of (get_or (filling l.k (codes_of l.resets l.n)) j 0))) l.i l.t
