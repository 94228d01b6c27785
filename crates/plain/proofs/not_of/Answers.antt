-- 0 and 1 exchange, x stays. Each answer is given by `value-x`.
use Prim.Native.Nat.{ℕ}
use mathlib.Core.Path.{sym, ap}
use Rattle.plan.specs.Step.{Value, code_of, value_of, inv}
use Rattle.plain.proofs.Codes.{value-x}
use Rattle.plain.proofs.not_of.Goals as goal

pub returns-then-a-eq48 : goal.returns-then-a-eq48
returns-then-a-eq48 c = sym (ap (λ (k : ℕ). code_of (inv (value_of k))) c.if-a-eq48.true)

pub returns-then-a-eq49 : goal.returns-then-a-eq49
returns-then-a-eq49 c = sym (ap (λ (k : ℕ). code_of (inv (value_of k))) c.if-a-eq49.true)

pub returns : goal.returns
returns c = sym (ap (λ (v : Value). code_of (inv v)) (value-x _ c.if-a-eq48.false c.if-a-eq49.false))
