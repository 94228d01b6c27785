-- Each turn counts one gate.
use lib.ListN.{length}
use Rattle.write.proofs.print.Rows.{AtRow}
use Rattle.write.proofs.print.Gates.{Counted}
use Rattle.write.proofs.print.gates_length.Given as goal

abbrev pub invariant-loop-gate : goal.invariant-loop-gate
invariant-loop-gate l = record { row : AtRow l.gates 3 l.n l.gate-iterator (length l.yielded); counted : Counted l.gates l.n l.sum (length l.yielded) }
