-- All latches take their next values at once. The loop keeps `Filled`.
use lib.ListN.{get_or}
use Rattle.step.proofs.values.Filling.{Filled}
use Rattle.plain.proofs.take_next.Given as goal

abbrev pub invariant-loop-i : goal.invariant-loop-i
invariant-loop-i l = Filled l.initial.state 0 (λ k. get_or l.t k 0) l.i l.state
