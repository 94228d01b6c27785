-- One step more of n needles, whose words start at `at`, by the values in words from `from` on. The loop keeps the rows counted so far;
-- `counts-more` carries them from turn to turn.
use Rattle.report.proofs.needles.Looping.{asks, counts-more}
use Rattle.report.proofs.needles.count_all.Goals as goal

pub count-requires : goal.count-requires
count-requires c = asks c.requires c.loop-i-test.true c.loop-i.auto.six c.loop-i.invariant

pub loop-i-preserved : goal.loop-i-preserved
loop-i-preserved c = counts-more c.requires c.loop-i-test.true c.loop-i.auto.six c.loop-i.invariant _ c.count.ensures
