-- The leaves' values, in the first n words, go to their literals' words, where gates and look ups read. The loop keeps `Spread lits (values_at t₀ 0
-- v) t₀ t`. `leaves-more` carries it from turn to turn.
use Rattle.step.proofs.sweep.Spreading.{leaves-more}
use Rattle.step.proofs.sweep.spread_leaves.Goals as goal

pub loop-v-preserved : goal.loop-v-preserved
loop-v-preserved c =
    leaves-more c.requires c.loop-v.v c.loop-v.t c.loop-v-test.true c.loop-v.invariant _ c.put_value.auto.t c.put_value.ensures
