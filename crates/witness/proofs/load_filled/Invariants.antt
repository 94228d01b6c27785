-- A vector of filling number k goes into words from `first` on; x is the number of its first x. The loop keeps `Filled`, and next is the number of
-- the first x from place i on.
use Prim.Native.Nat.{◌+◌}
use mathlib.Core.Path.{◌≡◌}
use lib.ListN.{get_or, take}
use Rattle.plan.specs.Step.{value_of}
use Rattle.plan.specs.Fillings.{x_count, fill_from}
use Rattle.step.specs.values.Words.{word}
use Rattle.step.proofs.values.Filling.{Filled}
use Rattle.witness.proofs.load_filled.Given as goal

abbrev pub invariant-loop-i : goal.invariant-loop-i
invariant-loop-i l = (l.next ≡ l.x + x_count (take l.i l.codes))
    × Filled l.initial.t l.first (λ j. word (value_of (get_or (fill_from l.k l.x l.codes) j 0))) l.i l.t
