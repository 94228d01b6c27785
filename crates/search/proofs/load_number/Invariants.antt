use Prim.Native.Nat.{◌/◌, ◌%◌, ◌^◌}
use Rattle.step.specs.values.Words.{word}
use Rattle.step.proofs.values.Filling.{Filled}
use Rattle.plan.specs.Search.{bit_value}
use Rattle.search.proofs.load_number.Given as goal

abbrev pub invariant-loop-i : goal.invariant-loop-i
invariant-loop-i l = Filled l.initial.t l.first (λ j. word (bit_value (l.k / 2 ^ j % 2))) l.i l.t
