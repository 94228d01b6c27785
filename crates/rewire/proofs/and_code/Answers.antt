-- The And of two codes: it is 1 where both are, and x where both may be 1 and not both are. Each answer is given by `and-codes`.
use Rattle.rewire.proofs.Codes.{and-codes}
use Rattle.rewire.proofs.and_code.Goals as goal

pub returns : goal.returns
returns c = λ a b e f. and-codes c.args.x c.args.y a b e f
