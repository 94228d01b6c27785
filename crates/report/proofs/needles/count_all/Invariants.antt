-- One step more of n needles, whose words start at `at`, by the values in words from `from` on. The loop keeps the rows counted so far;
-- `counts-more` carries them from turn to turn.
use mathlib.Core.Path.{◌≡◌}
use Rattle.plan.specs.Outcome.{put}
use Rattle.report.specs.needles.Tally.{counted_all}
use Rattle.report.proofs.needles.count_all.Given as goal

abbrev pub invariant-loop-i : goal.invariant-loop-i
invariant-loop-i l = l.six ≡ put l.initial.six l.at (counted_all l.t l.from l.i l.at l.initial.six)
