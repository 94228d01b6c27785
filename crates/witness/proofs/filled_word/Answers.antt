-- The word of a place of filling number k, where an x has the number x: bit x of k, 0 or 1 more than the word of 0. The answers are given by
-- `word-0`, `word-1` and `word-bit`.
use Rattle.witness.proofs.Words.{word-0, word-1, bit-fits, word-bit, word-other}
use Rattle.witness.proofs.filled_word.Goals as goal

pub returns-then-code-eq48 : goal.returns-then-code-eq48
returns-then-code-eq48 c = word-0 c.args.code c.args.k c.args.x c.if-code-eq48.true

pub returns-then-code-eq49 : goal.returns-then-code-eq49
returns-then-code-eq49 c = word-1 c.args.code c.args.k c.args.x c.if-code-eq49.true

pub overflow_add-result : goal.overflow_add-result
overflow_add-result c = record { fits = bit-fits c.args.code c.args.k c.args.x }

pub returns-then-code-eq120 : goal.returns-then-code-eq120
returns-then-code-eq120 c = word-bit c.args.code c.args.k c.args.x c.if-code-eq120.true

pub returns : goal.returns
returns c =
    word-other c.args.code c.args.k c.args.x
    c.if-code-eq48.false c.if-code-eq49.false c.if-code-eq120.false
