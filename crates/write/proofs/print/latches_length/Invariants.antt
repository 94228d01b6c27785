-- Each turn counts one latch.
use Rattle.write.proofs.print.Latches.{Counted}
use Rattle.write.proofs.print.latches_length.Given as goal

abbrev pub invariant-loop-i : goal.invariant-loop-i
invariant-loop-i l = Counted l.binary l.latches l.resets l.n l.sum l.i
