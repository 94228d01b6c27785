-- A turn adds one number.
use Rattle.cards.proofs.fill.Filling.{Worded}
use Rattle.cards.proofs.fill.fill_words.Given as goal

abbrev pub invariant-loop-i : goal.invariant-loop-i
invariant-loop-i l = Worded l.file l.at l.n l.initial.table l.table l.i
