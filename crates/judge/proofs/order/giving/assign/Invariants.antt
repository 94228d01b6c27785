-- The scan yields the first gate that is ready: none before it is, and where none is the order is at its end.
use Prim.Native.Nat.{◌+◌, ◌-◌, ◌≤◌}
use mathlib.Core.Path.{◌≡◌}
use lib.ListN.{length}
use Rattle.judge.proofs.order.Assigning.{Idle, State}
use Rattle.judge.proofs.order.giving.assign.Given as goal

abbrev pub invariant-loop-j : goal.invariant-loop-j
invariant-loop-j l = Idle l.gates l.t l.a l.j

abbrev pub decreases-loop-j : goal.decreases-loop-j
decreases-loop-j l = l.a - l.j

abbrev pub invariant-numbers : goal.invariant-numbers
invariant-numbers l = (l.k ≤ l.a) × (length l.t ≡ length l.initial.t) × (l.next ≡ l.first + l.k) × State l.gates l.initial.t l.t l.n l.a l.first l.next l.k

abbrev pub decreases-numbers : goal.decreases-numbers
decreases-numbers l = l.a - l.k
