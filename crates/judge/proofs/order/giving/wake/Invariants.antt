-- The gates of the chain are done one after the other.
use Prim.Native.Nat.{◌+◌}
use mathlib.Core.Path.{◌≡◌}
use lib.ListN.{length}
use Rattle.judge.specs.marks.Levels.{Agree}
use Rattle.judge.specs.order.Waiting.{Waking}
use Rattle.judge.proofs.order.Walking.{steps}
use Rattle.judge.proofs.order.giving.wake.Given as goal

abbrev pub invariant-loop-at : goal.invariant-loop-at
invariant-loop-at l = (length l.t ≡ length l.initial.t) × Waking l.gates l.t l.n l.a l.at × Agree l.n l.initial.t l.t

abbrev pub decreases-loop-at : goal.decreases-loop-at
decreases-loop-at l = steps l.t (l.n + l.a) l.a l.at
