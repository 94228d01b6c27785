-- A turn passes one mark.
use mathlib.Core.Path.{◌≡◌}
use lib.ListN.{drop}
use Rattle.plan.specs.Cards.{wrong_in}
use Rattle.cards.proofs.head.Marking.{wrong_from}
use Rattle.cards.proofs.head.check_marks.Given as goal

abbrev pub invariant-loop-i : goal.invariant-loop-i
invariant-loop-i l = wrong_in l.letter l.size l.n l.at (drop l.at l.file) ≡ wrong_from l.file l.letter l.size l.n l.at l.i
