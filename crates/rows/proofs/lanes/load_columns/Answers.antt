-- The planes of w inputs, from their bytes: a byte but "0" may be 1, and a byte but "1" may be 0. The answers are given by `grows_same` and
-- `block-plane`.
use Prim.Native.Nat.{◌+◌}
use native.Mathlib.Omega.{arith}
use Rattle.rows.specs.Planes.Planes.{column}
use Rattle.rows.proofs.lanes.Loading.{grows_same, block-plane, all-zero}
use Rattle.rows.proofs.lanes.load_columns.Goals as goal

pub load_block-requires : goal.load_block-requires
load_block-requires c = record { block = c.requires.block; in_bounds = (omega arith, all-zero 512) }

pub load_block-requires-2 : goal.load_block-requires-2
load_block-requires-2 c = record { block = c.requires.block; in_bounds = (omega arith, all-zero 512) }

pub overflow_add-from : goal.overflow_add-from
overflow_add-from c = omega (arith, c.requires.w_in_bounds)

pub put_columns-requires : goal.put_columns-requires
put_columns-requires c =
    record { w_bound = (c.requires.block.narrow, omega (arith, c.load_block.auto.block), omega (arith, c.load_block-2.auto.block)); w_in_bounds = c.requires.w_in_bounds }

pub returns : goal.returns
returns c =
    let a = c.args in
    grows_same (1 + a.from) _ _ (λ j. column 48 a.bytes.now (a.from + j) a.n a.rows) (λ j. column 49 a.bytes.now (a.from + j) a.n a.rows)
    a.w a.t.now _
    (block-plane 48 a.bytes.now a.from a.n a.w a.rows c.requires.block.most c.load_block.new.block c.load_block.ensures)
    (block-plane 49 a.bytes.now a.from a.n a.w a.rows c.requires.block.most c.load_block-2.new.block c.load_block-2.ensures)
    c.put_columns.ensures
