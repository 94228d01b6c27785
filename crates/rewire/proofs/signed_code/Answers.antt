-- A code, negated if the sign is 1: "0" and "1" differ in the lowest bit, and "x", which stays, alone has the bit of 64. Each answer is given by
-- `signed-codes`.
use Rattle.rewire.proofs.Codes.{signed-codes}
use Rattle.rewire.proofs.signed_code.Goals as goal

pub returns : goal.returns
returns c = λ a h e. signed-codes c.args.sign c.args.code a h e
