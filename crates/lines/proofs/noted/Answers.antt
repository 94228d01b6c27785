-- What was found first. Each answer is rewritten with the tests that led to it.
use Rattle.lines.proofs.noted.Goals as goal

pub returns-in-Some : goal.returns-in-Some
returns-in-Some c = rw c.in-Some.is

pub returns-else-fine : goal.returns-else-fine
returns-else-fine c = rw (c.in-None.is, c.if-fine.false)
