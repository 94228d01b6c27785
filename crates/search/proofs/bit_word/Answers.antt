use Rattle.search.proofs.Numbers.{bit-fits, bit-word-is}
use Rattle.search.proofs.bit_word.Goals as goal

pub overflow_add-result : goal.overflow_add-result
overflow_add-result c = record { fits = bit-fits c.args.k c.args.i }

pub returns : goal.returns
returns c = bit-word-is c.args.k c.args.i
