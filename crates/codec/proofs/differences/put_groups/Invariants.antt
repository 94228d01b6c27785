-- Each turn puts one group, and what is left completes what was to be put.
use Rattle.codec.proofs.differences.Groups.{Putting}
use Rattle.codec.proofs.differences.put_groups.Given as goal

abbrev pub invariant-loop-x : goal.invariant-loop-x
invariant-loop-x l = Putting l.initial.out l.at l.d l.out l.i l.x

abbrev pub decreases-loop-x : goal.decreases-loop-x
decreases-loop-x l = l.x
