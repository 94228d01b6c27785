-- Whether a gate is that of variable v and keeps this. The answers are given by `test-fails` and `test-passes`.
use mathlib.Core.Path.{refl, sym, ◌∙◌}
use Rattle.judge.proofs.binary_order.Steps.{test-fails, test-passes}
use Rattle.judge.proofs.binary_order.stands_at.Goals as goal

pub returns-then-not-stands_for : goal.returns-then-not-stands_for
returns-then-not-stands_for c = test-fails _ _ _ _ refl c.stands_for.ensures c.if-not-stands_for.true-raw

pub returns : goal.returns
returns c = c.falls_at.ensures ∙ sym (test-passes _ _ _ _ refl c.stands_for.ensures c.if-not-stands_for.false-raw)
