-- The two tests are those of the forms.
use Rattle.lines.proofs.header.adds_up.Goals as goal

pub returns-then-binary : goal.returns-then-binary
returns-then-binary c = rw c.if-binary.true

pub returns : goal.returns
returns c = rw c.if-binary.false
