-- The gates passed are hung or marked.
use mathlib.Core.Path.{◌≡◌}
use lib.ListN.{length}
use Rattle.judge.specs.marks.Levels.{Agree}
use Rattle.judge.specs.order.Waiting.{Waiting, before}
use Rattle.judge.proofs.order.chains.hang_all.Given as goal

abbrev pub invariant-loop-i : goal.invariant-loop-i
invariant-loop-i l = (length l.t ≡ length l.initial.t) × Waiting l.gates l.t l.n l.a (before l.i) × Agree l.n l.initial.t l.t
