-- The earliest of the n gates with the sides x and y, or where it is to hang. The loop keeps `Come gates scratch w n (word_of x) (word_of y) i key`;
-- the measure is `n - i`. `way_next` carries it from turn to turn, and `way-start`, `way_out` and `word-scratch` give the answer.
use Prim.Native.Nat.{◌-◌}
use Rattle.plan.specs.Literals.{word_of}
use Rattle.reduce.proofs.pairs.Way.{Come}
use Rattle.reduce.proofs.pairs.find.Given as goal

abbrev pub invariant-loop-x : goal.invariant-loop-x
invariant-loop-x l = Come l.gates l.scratch l.w l.n (word_of l.x) (word_of l.y) l.i l.key

abbrev pub decreases-loop-x : goal.decreases-loop-x
decreases-loop-x l = l.n - l.i
