-- Written out so that a wrong cut is refused here, at the value that it gives.
use native.Mathlib.Omega.{arith}
use Rattle.codec.proofs.numbers.with_digit.Goals as goal

pub overflow_mul-w : goal.overflow_mul-w
overflow_mul-w c = omega arith

pub overflow_add-w : goal.overflow_add-w
overflow_add-w c = omega arith

pub overflow_cast-t-4 : goal.overflow_cast-t-4
overflow_cast-t-4 c = omega arith

pub overflow_cast-result : goal.overflow_cast-result
overflow_cast-result c = omega arith

pub returns-then-w : goal.returns-then-w
returns-then-w c = omega arith

pub returns-else-w : goal.returns-else-w
returns-else-w c = omega arith
