-- The variable of a table's word. The answer is that of the call below it.
use mathlib.Core.Path.{ap, ◌∙◌}
use Rattle.plan.specs.Literals.{index_of, halved}
use Rattle.judge.proofs.used.variable.Goals as goal

pub returns : goal.returns
returns c = c.index.ensures ∙ ap index_of (c.var.ensures ∙ ap halved c.at.ensures)
