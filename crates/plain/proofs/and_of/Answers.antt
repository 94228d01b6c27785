-- 0 if either is 0, 1 if both are 1, else x. The answers are given by `first-zero`, `second-zero` and `first-x`.
use Rattle.plain.proofs.Codes.{first-zero, second-zero, first-x, second-x, both_one}
use Rattle.plain.proofs.and_of.Goals as goal

pub returns-then-a-eq48 : goal.returns-then-a-eq48
returns-then-a-eq48 c = first-zero c.args.a c.args.b c.if-a-eq48.true

pub returns-then-b-eq48 : goal.returns-then-b-eq48
returns-then-b-eq48 c = second-zero c.args.a c.args.b c.if-b-eq48.true

pub returns-then-a-ne49 : goal.returns-then-a-ne49
returns-then-a-ne49 c = first-x c.args.a c.args.b c.if-a-eq48.false c.if-b-eq48.false c.if-a-ne49.true

pub returns-then-b-ne49 : goal.returns-then-b-ne49
returns-then-b-ne49 c = second-x c.args.a c.args.b c.if-a-eq48.false c.if-b-eq48.false c.if-b-ne49.true

pub returns : goal.returns
returns c = both_one c.args.a c.args.b c.if-a-ne49.false c.if-b-ne49.false
