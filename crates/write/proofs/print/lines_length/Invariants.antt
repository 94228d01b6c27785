-- Each turn counts one word.
use Rattle.write.proofs.print.Turns.{Counted}
use Rattle.write.proofs.print.lines_length.Given as goal

abbrev pub invariant-loop-word : goal.invariant-loop-word
invariant-loop-word l = Counted l.table l.k l.n l.sum l.word-index
