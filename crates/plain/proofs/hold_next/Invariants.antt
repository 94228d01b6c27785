-- The next states go into the first words of a table, as the state is asked for until the last of them is known. The loop keeps `Filled`.
use Prim.Native.Nat.{◌+◌, ◌*◌}
use lib.ListN.{get_or}
use Rattle.plan.specs.Step.{code_of, lit}
use Rattle.step.proofs.values.Filling.{Filled}
use Rattle.plain.specs.Asked.{variable_in}
use Rattle.plain.proofs.hold_next.Given as goal

abbrev pub invariant-loop-i : goal.invariant-loop-i
invariant-loop-i l = Filled l.initial.t 0 (λ k. code_of (lit (variable_in l.n l.gates l.state l.ins) (get_or l.latches (2 * k + 1) 0))) l.i l.t
