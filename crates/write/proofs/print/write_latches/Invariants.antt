-- Each turn writes one latch.
use Rattle.write.proofs.print.Latches.{Printed}
use Rattle.write.proofs.print.write_latches.Given as goal

abbrev pub invariant-loop-i : goal.invariant-loop-i
invariant-loop-i l = Printed l.binary l.latches l.resets l.n l.initial.out l.at l.out l.next l.i
