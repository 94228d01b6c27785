-- A row is added to a block: where its byte differs from a code, the bit `lit` of the column's byte is lit. The loop keeps `Written`.
use Prim.Native.Nat.{◌+◌, ◌*◌}
use lib.ListN.{get_or}
use Rattle.rows.specs.Planes.Planes.{other}
use Rattle.rows.specs.lanes.Blocks.{Written}
use Rattle.rows.proofs.lanes.add_row.Given as goal

abbrev pub invariant-loop-j : goal.invariant-loop-j
invariant-loop-j l = Written (λ i. get_or l.initial.block (l.to + i) 0 + other l.code (get_or l.bytes (l.from + i) 0) * l.lit) l.to l.j l.initial.block l.block
