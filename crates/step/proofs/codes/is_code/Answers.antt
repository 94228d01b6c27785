-- Each answer is rewritten with the tests that led to it.
use borrow.Author.Tests.{eq-eqb, ne_eqb}
use Rattle.step.proofs.codes.is_code.Goals as goal

pub returns-then-b-eq48 : goal.returns-then-b-eq48
returns-then-b-eq48 c = simp (eq-eqb _ _ c.if-b-eq48.true)

pub returns-then-b-eq49 : goal.returns-then-b-eq49
returns-then-b-eq49 c = simp (ne_eqb _ _ c.if-b-eq48.false, eq-eqb _ _ c.if-b-eq49.true)

pub returns : goal.returns
returns c = simp (ne_eqb _ _ c.if-b-eq48.false, ne_eqb _ _ c.if-b-eq49.false)
