-- Whether n codes stand in a vector, and no other byte. Each answer is rewritten with the tests that led to it.
use borrow.Author.Tests.{eq-eqb, ne_eqb}
use Rattle.step.proofs.codes.codes_in.Goals as goal

pub returns-then-bytes-n : goal.returns-then-bytes-n
returns-then-bytes-n c = simp (ne_eqb _ _ c.if-bytes-n.true)

pub returns : goal.returns
returns c = simp (eq-eqb _ _ c.if-bytes-n.false) c.all_codes.ensures
