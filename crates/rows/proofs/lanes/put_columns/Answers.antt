-- The planes of a block's columns, behind those of `before` variables. The loop keeps `Grows`. `grows-more` carries it from turn to turn.
use Prim.Native.Nat.{ℕ, ◌+◌, ◌*◌}
use mathlib.Core.Path.{ap₂, ◌∙◌}
use native.Mathlib.Omega.{arith}
use Rattle.rows.specs.lanes.Words.{block_plane}
use Rattle.rows.proofs.lanes.Turns.{grows-more}
use Rattle.rows.proofs.lanes.put_columns.Goals as goal

pub loop-j-preserved : goal.loop-j-preserved
loop-j-preserved c =
    let a = c.args in
    grows-more a.before (block_plane a.ones.now) (block_plane a.zeros.now) c.loop-j.j a.t.now c.loop-j.t c.loop-j.invariant _ _ _ (omega arith)
    (c.joined-one.ensures ∙ ap₂ (λ (x y : ℕ). x + y * 4294967296) c.word_of.ensures c.word_of-in-loop-j.ensures)
    (c.joined-zero.ensures ∙ ap₂ (λ (x y : ℕ). x + y * 4294967296) c.word_of-in-loop-j-2.ensures c.word_of-in-loop-j-3.ensures)
    c.put_planes.ensures
