-- Each test splits at a power of ten; more than seven digits are counted.
use Rattle.codec.proofs.numbers.Length.{one, many}
use Rattle.codec.proofs.numbers.digits_in.Goals as goal

pub returns-then-n-lt10 : goal.returns-then-n-lt10
returns-then-n-lt10 c = one c.args.n c.if-n-lt10.true

pub returns-then-n-lt100 : goal.returns-then-n-lt100
returns-then-n-lt100 c = many 0 c.args.n c.if-n-lt10.false c.if-n-lt100.true

pub returns-then-n-lt1000 : goal.returns-then-n-lt1000
returns-then-n-lt1000 c = many 1 c.args.n c.if-n-lt100.false c.if-n-lt1000.true

pub returns-then-n-lt10000 : goal.returns-then-n-lt10000
returns-then-n-lt10000 c = many 2 c.args.n c.if-n-lt1000.false c.if-n-lt10000.true

pub returns-then-n-lt100000 : goal.returns-then-n-lt100000
returns-then-n-lt100000 c = many 3 c.args.n c.if-n-lt10000.false c.if-n-lt100000.true

pub returns-then-n-lt1000000 : goal.returns-then-n-lt1000000
returns-then-n-lt1000000 c = many 4 c.args.n c.if-n-lt100000.false c.if-n-lt1000000.true

pub returns-then-n-lt10000000 : goal.returns-then-n-lt10000000
returns-then-n-lt10000000 c = many 5 c.args.n c.if-n-lt1000000.false c.if-n-lt10000000.true

pub returns : goal.returns
returns c = c.count_digits.ensures
