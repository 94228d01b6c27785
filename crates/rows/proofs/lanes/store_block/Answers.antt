-- The codes of w literals of a table in each row. The answers are given by `blocked-same` and `packed-code`.
use Prim.Native.Nat.{◌+◌}
use native.Mathlib.Omega.{arith}
use Rattle.rows.specs.lanes.Words.{plane_at, both_at}
use Rattle.rows.specs.lanes.Working.{literal_at}
use Rattle.rows.proofs.lanes.Storing.{blocked-same, packed-code}
use Rattle.rows.proofs.lanes.store_block.Goals as goal

pub pack-requires : goal.pack-requires
pack-requires c =
    record { shows = c.requires.shows; w_nonzero = (c.requires.block.some, c.requires.block.narrow, omega arith, omega arith) }

pub put_block-requires : goal.put_block-requires
put_block-requires c =
    record { block = c.requires.block; in_bounds = (omega (arith, c.pack.auto.ones), omega (arith, c.pack.auto.boths)) }

pub returns : goal.returns
returns c =
    let a = c.args in
    blocked-same (λ k j h i.
    packed-code (λ j. plane_at a.t.now (literal_at a.table.now a.start a.stride (a.from + j)))
    (λ j. both_at a.t.now (literal_at a.table.now a.start a.stride (a.from + j))) a.w
    c.pack.new.ones c.pack.new.boths c.pack.ensures.packed c.pack.ensures.packed_2 k j
    (omega (arith, h, c.requires.block.most)) i)
    c.put_block.ensures
