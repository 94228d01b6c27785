-- A reset as a code: the latch's own literal is "x". Each answer is given by `reset-other`.
use mathlib.Core.Path.{sym, ap}
use Prim.Native.Nat.{ℕ}
use Rattle.plan.specs.Step.{code_of, reset_value}
use Rattle.witness.proofs.Words.{reset-other}
use Rattle.witness.proofs.code_of_reset.Goals as goal

pub returns-then-reset-eq0 : goal.returns-then-reset-eq0
returns-then-reset-eq0 c = sym (ap (λ (r : ℕ). code_of (reset_value r)) c.if-reset-eq0.true)

pub returns-then-reset-eq1 : goal.returns-then-reset-eq1
returns-then-reset-eq1 c = sym (ap (λ (r : ℕ). code_of (reset_value r)) c.if-reset-eq1.true)

pub returns : goal.returns
returns c = reset-other c.args.reset c.if-reset-eq0.false c.if-reset-eq1.false
