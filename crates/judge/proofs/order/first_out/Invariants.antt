-- Every gate passed has a number.
use Prim.Native.Nat.{ℕ, ◌<◌}
use mathlib.Core.Bool.{true}
use mathlib.Core.Path.{◌≡◌}
use Rattle.plan.specs.Literals.{var_of}
use Rattle.laws.proofs.Tables.{gate_at}
use Rattle.judge.specs.order.Waiting.{numbered_v}
use Rattle.judge.proofs.order.first_out.Given as goal

abbrev pub invariant-loop-i : goal.invariant-loop-i
invariant-loop-i l = (j : ℕ) → j < l.i → numbered_v l.t (var_of (gate_at l.gates j).lhs) ≡ true
