-- A turn makes one latch below those that were made.
use Rattle.lines.proofs.gates.Spreading.{Spread}
use Rattle.lines.proofs.gates.spread.Given as goal

abbrev pub invariant-loop-i : goal.invariant-loop-i
invariant-loop-i l = Spread l.first l.n l.initial.table l.table l.i
