-- A turn adds one gate to those that were read, or refuses as the whole does.
use Rattle.lines.proofs.gates.Gathered.{Gathered}
use Rattle.lines.proofs.gates.read_run.Given as goal

abbrev pub invariant-loop-i : goal.invariant-loop-i
invariant-loop-i l = Gathered l.file l.at l.first l.n l.initial.table l.table l.next l.i
