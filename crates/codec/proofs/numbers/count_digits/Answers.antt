-- Each turn takes one digit off what is left; the measure is what is left.
use native.Mathlib.Omega.{arith}
use Rattle.codec.proofs.numbers.Length.{digits-twenty}
use Rattle.codec.proofs.numbers.Count.{begins, turn, all-counted}
use Rattle.codec.proofs.numbers.count_digits.Goals as goal

pub loop-rest-init : goal.loop-rest-init
loop-rest-init c = begins c.args.n

pub overflow_add-count : goal.overflow_add-count
overflow_add-count c = omega (arith, c.loop-rest.invariant.counted, digits-twenty c.args.n (omega arith))

pub loop-rest-preserved : goal.loop-rest-preserved
loop-rest-preserved c = turn c.loop-rest.invariant c.loop-rest-test.true

pub returns : goal.returns
returns c = all-counted c.loop-rest.invariant c.loop-rest-test.false
