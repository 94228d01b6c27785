-- 1 where a byte differs from a code, by a sum instead of a test: half of what is not 0, rounded up, and 127 make 128 or more. Each answer is given
-- by `differs-is`.
use Prim.Native.Nat.{◌<◌}
use native.Mathlib.Omega.{arith}
use lib.Bits.{bit_xor}
use Rattle.rows.proofs.lanes.Loading.{differs-fits, differs-is}
use Rattle.rows.proofs.lanes.other_than.Goals as goal

pub overflow_add-result : goal.overflow_add-result
overflow_add-result c =
    let fits : bit_xor c.args.b c.args.code < 256 =
    differs-fits c.args.b c.args.code (omega arith) (omega arith) in
    omega (arith, fits)

pub overflow_add-result-2 : goal.overflow_add-result-2
overflow_add-result-2 c =
    let fits : bit_xor c.args.b c.args.code < 256 =
    differs-fits c.args.b c.args.code (omega arith) (omega arith) in
    omega (arith, fits)

pub returns : goal.returns
returns c = differs-is c.args.b c.args.code (omega arith) (omega arith)
