-- The gates passed are named.
use mathlib.Core.Path.{◌≡◌}
use lib.ListN.{length}
use Rattle.judge.specs.order.Waiting.{with_names}
use Rattle.judge.proofs.order.words.name_all.Given as goal

abbrev pub invariant-loop-i : goal.invariant-loop-i
invariant-loop-i l = (length l.t ≡ length l.initial.t) × (l.t ≡ with_names l.gates l.i l.initial.t)
