-- Each turn writes one word.
use Rattle.write.proofs.print.Turns.{Printed}
use Rattle.write.proofs.print.write_lines.Given as goal

abbrev pub invariant-loop-word : goal.invariant-loop-word
invariant-loop-word l = Printed l.table l.k l.n l.initial.out l.at l.out l.next l.left l.word-index
