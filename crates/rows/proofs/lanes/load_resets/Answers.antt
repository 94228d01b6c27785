-- The latches' planes, by their resets, behind those of `before` variables: in every row the same. The loop keeps `Grows`. `grows-more` carries it
-- from turn to turn.
use native.Mathlib.Omega.{arith}
use Rattle.rows.proofs.lanes.Turns.{grows-more}
use Rattle.rows.proofs.lanes.load_resets.Invariants.{but}
use Rattle.rows.proofs.lanes.load_resets.Goals as goal

pub loop-j-preserved : goal.loop-j-preserved
loop-j-preserved c =
    let a = c.args in
    grows-more a.before (but 0 a.resets.now) (but 1 a.resets.now) c.loop-j.j a.t.now c.loop-j.t c.loop-j.invariant _ _ _ (omega arith)
    c.rows_but-one.ensures c.rows_but-zero.ensures c.put_planes.ensures
