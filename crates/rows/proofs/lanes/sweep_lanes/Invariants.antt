-- The planes of n gates, whose variables run on from `before`. The loop keeps `Swept`. `swept-more` carries it from turn to turn.
use Rattle.rows.specs.lanes.Working.{Swept}
use Rattle.rows.proofs.lanes.sweep_lanes.Given as goal

abbrev pub invariant-loop-i : goal.invariant-loop-i
invariant-loop-i l = Swept l.gates l.i l.before l.initial.t l.t
