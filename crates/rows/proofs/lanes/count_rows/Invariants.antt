-- Per output the rows at 0, at 1 and at x. The loop keeps the numbers of the outputs before; `rows_more` carries them from turn to turn.
use mathlib.Core.Path.{◌≡◌}
use Rattle.plan.specs.Outcome.{put}
use Rattle.rows.specs.lanes.Working.{counts_of}
use Rattle.rows.proofs.lanes.count_rows.Given as goal

abbrev pub invariant-loop-j : goal.invariant-loop-j
invariant-loop-j l = l.report ≡ put l.initial.report 0 (counts_of l.outputs l.j l.mask l.t)
