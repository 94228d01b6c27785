-- Where w columns of rows of n bytes, from column `from` on, differ from a code: a block, which is zero at first. The loop keeps `Packed`.
-- `packed_more` carries it from turn to turn.
use Rattle.rows.specs.lanes.Blocks.{Packed}
use Rattle.rows.proofs.lanes.Loading.{loaded}
use Rattle.rows.proofs.lanes.load_block.Given as goal

abbrev pub invariant-loop-k : goal.invariant-loop-k
invariant-loop-k l = Packed (loaded l.code l.bytes l.from l.n l.w l.k) l.w l.block
