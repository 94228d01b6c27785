-- The codes of a block in each row, which go to the columns from `from` on. The loop keeps `Blocked`. `blocked-more` carries it from turn to turn.
use Rattle.rows.proofs.lanes.Storing.{blocked-more}
use Rattle.rows.proofs.lanes.put_block.Goals as goal

pub loop-k-preserved : goal.loop-k-preserved
loop-k-preserved c = blocked-more c.loop-k.invariant c.requires.block.inside _ c.put_codes.ensures
