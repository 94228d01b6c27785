-- Each turn takes one digit off what is left; the measure is what is left.
use Rattle.codec.proofs.numbers.Count.{Counting}
use Rattle.codec.proofs.numbers.count_digits.Given as goal

abbrev pub invariant-loop-rest : goal.invariant-loop-rest
invariant-loop-rest l = Counting l.n l.count l.rest

abbrev pub decreases-loop-rest : goal.decreases-loop-rest
decreases-loop-rest l = l.rest
