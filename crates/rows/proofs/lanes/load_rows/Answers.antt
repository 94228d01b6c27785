-- The inputs' planes, from the rows' bytes, behind the constant's. The loop keeps `Grows`. `grows-join` carries it from turn to turn, and to the end.
use Prim.Native.Nat.{◌+◌}
use native.Mathlib.Omega.{arith}
use Rattle.rows.proofs.lanes.Turns.{grows_all}
use Rattle.rows.proofs.lanes.Loading.{grows-join}
use Rattle.rows.proofs.lanes.load_rows.Invariants.{one, zero}
use Rattle.rows.proofs.lanes.load_rows.Goals as goal

pub loop-j-preserved : goal.loop-j-preserved
loop-j-preserved c =
    let a = c.args in (
      omega arith,
      grows-join 1 (one a.bytes.now a.n a.rows) (zero a.bytes.now a.n a.rows) c.loop-j.j c.min.result (c.loop-j.j + 64) (omega arith)
          a.t.now c.loop-j.t _ c.loop-j.invariant.1 c.load_columns.ensures,
    )

pub returns : goal.returns
returns c =
    let a = c.args in
    grows_all 1 (one a.bytes.now a.n a.rows) (zero a.bytes.now a.n a.rows) c.loop-j.j a.n a.t.now c.loop-j.t (omega arith) c.loop-j.invariant.1

pub returns-2 : goal.returns-2
returns-2 c =
    let a = c.args in
    grows-join 1 (one a.bytes.now a.n a.rows) (zero a.bytes.now a.n a.rows) c.loop-j.j c.min.result a.n (omega arith)
    a.t.now c.loop-j.t _ c.loop-j.invariant.1 c.load_columns.ensures
