use Prim.Native.Nat.{◌/◌, ◌%◌, ◌^◌}
use Rattle.plan.specs.Step.{code_of}
use Rattle.step.proofs.values.Filling.{Filled}
use Rattle.plan.specs.Search.{bit_value}
use Rattle.search.proofs.back.store_number.Given as goal

abbrev pub invariant-loop-i : goal.invariant-loop-i
invariant-loop-i l = Filled l.initial.t l.first (λ j. code_of (bit_value (l.k / 2 ^ j % 2))) l.i l.t
