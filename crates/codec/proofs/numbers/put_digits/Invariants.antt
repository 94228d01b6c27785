-- The loop keeps the digits of the whole number; the measure is what is left of it.
use Rattle.codec.proofs.numbers.Filling.{Filling}
use Rattle.codec.proofs.numbers.put_digits.Given as goal

abbrev pub invariant-loop-rest : goal.invariant-loop-rest
invariant-loop-rest l = Filling l.initial.out l.at l.n l.out l.i l.rest

abbrev pub decreases-loop-rest : goal.decreases-loop-rest
decreases-loop-rest l = l.rest
