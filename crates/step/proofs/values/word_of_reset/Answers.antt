-- The word of a latch's value at the start, by its reset: its own literal is x. Each answer is rewritten with the tests that led to it.
use borrow.Author.Tests.{eq-eqb, ne_eqb}
use Rattle.step.proofs.values.word_of_reset.Goals as goal

pub returns-then-reset-eq0 : goal.returns-then-reset-eq0
returns-then-reset-eq0 c = simp (eq-eqb _ _ c.if-reset-eq0.true)

pub returns-then-reset-eq1 : goal.returns-then-reset-eq1
returns-then-reset-eq1 c = simp (ne_eqb _ _ c.if-reset-eq0.false, eq-eqb _ _ c.if-reset-eq1.true)

pub returns : goal.returns
returns c = simp (ne_eqb _ _ c.if-reset-eq0.false, ne_eqb _ _ c.if-reset-eq1.false)
