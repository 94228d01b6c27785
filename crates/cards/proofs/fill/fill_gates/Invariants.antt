-- A turn adds one gate.
use Rattle.cards.proofs.fill.Filling.{Gated}
use Rattle.cards.proofs.fill.fill_gates.Given as goal

abbrev pub invariant-loop-i : goal.invariant-loop-i
invariant-loop-i l = Gated l.file l.at l.n l.first l.initial.table l.table l.i
