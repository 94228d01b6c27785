-- 1 at an x, else 0. The answers are given by `x-here` and `x-not`.
use Rattle.witness.proofs.Words.{x-here, x-not}
use Rattle.witness.proofs.x_of.Goals as goal

pub returns-then-code-eq120 : goal.returns-then-code-eq120
returns-then-code-eq120 c = x-here c.args.code c.if-code-eq120.true

pub returns : goal.returns
returns c = x-not c.args.code c.if-code-eq120.false
