-- Where w columns of rows of n bytes, from column `from` on, differ from a code: a block, which is zero at first. The loop keeps `Packed`.
-- `packed_more` carries it from turn to turn.
use native.Mathlib.Omega.{arith}
use Rattle.rows.proofs.lanes.Loading.{packed-room, packed_more}
use Rattle.rows.proofs.lanes.load_block.Goals as goal

pub add_row-requires-clause-by_index : goal.add_row-requires-clause-by_index
add_row-requires-clause-by_index c =
    let a = c.args in
    packed-room a.code a.bytes.now a.from a.n a.w c.loop-k.k c.loop-k.block c.loop-k.invariant (omega arith)

pub loop-k-preserved : goal.loop-k-preserved
loop-k-preserved c =
    let a = c.args in
    packed_more a.code a.bytes.now a.from a.n a.w c.loop-k.k c.loop-k.block c.loop-k.invariant (omega arith) c.requires.block.narrow
    _ c.add_row.ensures
