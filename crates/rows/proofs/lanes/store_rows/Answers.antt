-- The codes of n literals of a table in each row, n bytes a row. The loop keeps `Below`. `below-block` carries it from turn to turn, and to the end,
-- and `rows_are` gives the answer.
use Prim.Native.Nat.{◌+◌}
use mathlib.Core.Path.{◌∙◌}
use native.Mathlib.Omega.{arith}
use Rattle.rows.proofs.lanes.Storing.{below-block, rows_are}
use Rattle.rows.proofs.lanes.store_rows.Invariants.{coded}
use Rattle.rows.proofs.lanes.store_rows.Goals as goal

pub loop-j-preserved : goal.loop-j-preserved
loop-j-preserved c =
    let a = c.args in (
      omega arith,
      below-block (coded a.table.now a.start a.stride a.t.now) a.n a.rows c.loop-j.j c.min.result (c.loop-j.j + 64) (omega arith)
          c.loop-j.out _ c.loop-j.invariant.1 c.store_block.ensures,
    )

pub returns : goal.returns
returns c =
    let a = c.args in
    rows_are (coded a.table.now a.start a.stride a.t.now) a.n a.rows c.loop-j.out (c.loop-j.auto.out ∙ c.requires.rows_bound.1)
    (λ k i p q. c.loop-j.invariant.1 k i p (omega arith))

pub returns-2 : goal.returns-2
returns-2 c =
    let a = c.args in
    rows_are (coded a.table.now a.start a.stride a.t.now) a.n a.rows _ (c.store_block.auto.out ∙ c.loop-j.auto.out ∙ c.requires.rows_bound.1)
    (below-block (coded a.table.now a.start a.stride a.t.now) a.n a.rows c.loop-j.j c.min.result a.n (omega arith)
    c.loop-j.out _ c.loop-j.invariant.1 c.store_block.ensures)
