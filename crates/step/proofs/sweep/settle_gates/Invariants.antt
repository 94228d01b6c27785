use Prim.Native.Nat.{◌*◌}
use mathlib.Core.Path.{◌≡◌}
use lib.ListN.{length}
use Rattle.step.proofs.sweep.Sweeping.{Settled}
use Rattle.step.proofs.sweep.settle_gates.Given as goal

abbrev pub invariant-loop-i : goal.invariant-loop-i
invariant-loop-i l = (l.start ≡ 2 * l.first) × (length l.t ≡ length l.initial.t) × Settled l.gates l.first l.initial.t l.i l.t
