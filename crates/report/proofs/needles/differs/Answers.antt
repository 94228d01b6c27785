-- 1 if a value's word differs from the last one's, else 0; 0 too where no value came before. Each answer is rewritten with the tests that led to it.
use borrow.Author.Tests.{eq-eqb, ne_eqb}
use Rattle.report.proofs.needles.differs.Goals as goal

pub returns-then-last-eq0 : goal.returns-then-last-eq0
returns-then-last-eq0 c = simp (eq-eqb _ _ c.if-last-eq0.true)

pub returns-then-last-value : goal.returns-then-last-value
returns-then-last-value c = simp (ne_eqb _ _ c.if-last-eq0.false, eq-eqb _ _ c.if-last-value.true)

pub returns : goal.returns
returns c = simp (ne_eqb _ _ c.if-last-eq0.false, ne_eqb _ _ c.if-last-value.false)
