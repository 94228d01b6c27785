-- A turn adds one literal.
use Rattle.lines.proofs.gates.RunOn.{RunsOn}
use Rattle.lines.proofs.gates.run_on.Given as goal

abbrev pub invariant-loop-i : goal.invariant-loop-i
invariant-loop-i l = RunsOn l.first l.n l.initial.table l.table l.i
