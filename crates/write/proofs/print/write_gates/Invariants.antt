-- Each turn writes one gate that another follows; the last one is written by itself.
use Rattle.write.proofs.print.Gates.{Printed}
use Rattle.write.proofs.print.write_gates.Given as goal

abbrev pub invariant-loop-i : goal.invariant-loop-i
invariant-loop-i l = Printed l.gates l.n l.initial.out l.at l.out l.next l.i
