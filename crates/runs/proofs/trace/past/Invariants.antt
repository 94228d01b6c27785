-- The position past the next `count` lines, or the end of the bytes, which it is too where `from` is past it. Unless it is, the loop keeps `Passing
-- bytes from count at left`. `past-lines` and `past_all` give the answer.
use Prim.Native.Nat.{◌≤◌}
use lib.ListN.{length}
use Rattle.runs.proofs.trace.Passing.{Passing}
use Rattle.runs.proofs.trace.past.Given as goal

abbrev pub invariant-loop-at : goal.invariant-loop-at
invariant-loop-at l = l.from ≤ length l.bytes → Passing l.bytes l.from l.count l.at l.left
