-- The outputs' values go into their buffer. The loop keeps `Filled`.
use lib.ListN.{get_or}
use Rattle.plan.specs.Step.{code_of, lit}
use Rattle.step.proofs.values.Filling.{Filled}
use Rattle.plain.specs.Asked.{variable_in}
use Rattle.plain.proofs.give_outputs.Given as goal

abbrev pub invariant-loop-i : goal.invariant-loop-i
invariant-loop-i l = Filled l.initial.outs 0 (λ k. code_of (lit (variable_in l.n l.gates l.state l.ins) (get_or l.outputs k 0))) l.i l.outs
