-- The word of a code's value. Each answer is rewritten with the tests that led to it.
use borrow.Author.Tests.{eq-eqb, ne_eqb}
use Rattle.step.proofs.values.word_of.Goals as goal

pub returns-then-code-eq48 : goal.returns-then-code-eq48
returns-then-code-eq48 c = simp (eq-eqb _ _ c.if-code-eq48.true)

pub returns-then-code-eq49 : goal.returns-then-code-eq49
returns-then-code-eq49 c = simp (ne_eqb _ _ c.if-code-eq48.false, eq-eqb _ _ c.if-code-eq49.true)

pub returns : goal.returns
returns c = simp (ne_eqb _ _ c.if-code-eq48.false, ne_eqb _ _ c.if-code-eq49.false)
