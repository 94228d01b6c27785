-- The number of groups, from the number of bits.
use native.Mathlib.Omega.{arith}
use lib.Bits.{bit_or}
use lib.Count.{leading_le}
use Rattle.codec.proofs.differences.Groups.{count_bits}
use Rattle.codec.proofs.differences.groups_in.Goals as goal

pub overflow_sub-bits : goal.overflow_sub-bits
overflow_sub-bits c = leading_le 32 (bit_or c.args.d 1)

pub overflow_mul-result : goal.overflow_mul-result
overflow_mul-result c = omega arith

pub overflow_add-result : goal.overflow_add-result
overflow_add-result c = omega arith

pub overflow_cast-result : goal.overflow_cast-result
overflow_cast-result c = omega arith

pub returns : goal.returns
returns c = count_bits c.args.d (omega arith)
