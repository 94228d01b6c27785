-- Every row where a reset differs from a code, else none. Each answer is rewritten with the tests that led to it.
use borrow.Author.Tests.{eq-eqb, ne_eqb}
use Rattle.rows.proofs.lanes.rows_but.Goals as goal

pub returns-then-reset-code : goal.returns-then-reset-code
returns-then-reset-code c = simp (eq-eqb _ _ c.if-reset-code.true)

pub returns : goal.returns
returns c = simp (ne_eqb _ _ c.if-reset-code.false)
