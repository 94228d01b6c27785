-- Whether the gates need no order: nobody asks for their numbers, and each uses variables below its own alone. The answer is that of the call below
-- it.
use mathlib.Core.Path.{sym, ◌∙◌}
use mathlib.Core.Bool.{false≢true}
use Rattle.judge.proofs.at_end.needs_no_order.Goals as goal

pub returns-then-numbers : goal.returns-then-numbers
returns-then-numbers c e = absurd (false≢true e)

pub returns : goal.returns
returns c e = (c.if-numbers.false, sym c.ascending.ensures ∙ e)
