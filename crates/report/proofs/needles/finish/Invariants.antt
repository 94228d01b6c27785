-- After the last step the values of the step before go: of n needles the changes alone stay. The loop keeps the rows finished so far;
-- `finish-more` carries them from turn to turn.
use mathlib.Core.Path.{◌≡◌}
use Rattle.plan.specs.Outcome.{put}
use Rattle.report.specs.needles.Tally.{finished_all}
use Rattle.report.proofs.needles.finish.Given as goal

abbrev pub invariant-loop-i : goal.invariant-loop-i
invariant-loop-i l = l.six ≡ put l.initial.six 0 (finished_all l.i l.initial.six)
