-- The planes of a block's columns, behind those of `before` variables. The loop keeps `Grows`. `grows-more` carries it from turn to turn.
use Rattle.rows.specs.lanes.Words.{block_plane}
use Rattle.rows.specs.lanes.Working.{Grows}
use Rattle.rows.proofs.lanes.put_columns.Given as goal

abbrev pub invariant-loop-j : goal.invariant-loop-j
invariant-loop-j l = Grows l.before (block_plane l.ones) (block_plane l.zeros) l.j l.initial.t l.t
