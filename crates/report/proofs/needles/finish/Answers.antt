-- After the last step the values of the step before go: of n needles the changes alone stay. The loop keeps the rows finished so far;
-- `finish-more` carries them from turn to turn.
use Rattle.report.proofs.needles.Looping.{finish-more}
use Rattle.report.proofs.needles.finish.Goals as goal

pub loop-i-preserved : goal.loop-i-preserved
loop-i-preserved c = finish-more _ _ c.requires _ _ c.loop-i-test.true c.loop-i.auto.six c.loop-i.invariant
