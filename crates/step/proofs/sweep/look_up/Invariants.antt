-- The values of n literals of a table, from `start` on by `stride`, go into words from `first` on, which lie before the literals'. The loop keeps
-- `Filled`. `next-looked` carries it from turn to turn, and `all-looked` gives the answer.
use Rattle.step.proofs.values.Filling.{Filled}
use Rattle.step.proofs.sweep.Lookups.{literal_word}
use Rattle.step.proofs.sweep.look_up.Given as goal

abbrev pub invariant-loop-i : goal.invariant-loop-i
invariant-loop-i l = Filled l.initial.t l.first (literal_word l.table l.start l.stride l.lits l.initial.t) l.i l.t
