-- The codes of w columns in one row, whose bits are those in a lane of the bytes from `from` on: a code is at most 120.
use native.Mathlib.Omega.{arith}
use Rattle.rows.proofs.Planes.Bits.{bit-small}
use Rattle.rows.proofs.lanes.put_codes.Goals as goal

pub overflow_add-out : goal.overflow_add-out
overflow_add-out c = omega (arith, bit-small)

pub overflow_mul-out : goal.overflow_mul-out
overflow_mul-out c = omega (arith, bit-small)

pub overflow_add-out-in-loop-j : goal.overflow_add-out-in-loop-j
overflow_add-out-in-loop-j c = omega (arith, bit-small)
