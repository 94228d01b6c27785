-- The bytes of a plane, as column j of a block. The loop keeps `Striped`.
use Rattle.rows.specs.lanes.Words.{byte_of}
use Rattle.rows.specs.lanes.Blocks.{Striped}
use Rattle.rows.proofs.lanes.put_bytes.Given as goal

abbrev pub invariant-loop-g : goal.invariant-loop-g
invariant-loop-g l = Striped (byte_of l.plane) l.j 64 l.g l.initial.block l.block
