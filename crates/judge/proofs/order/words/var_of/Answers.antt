-- The variable of a literal, by the doors of plan.
use mathlib.Core.Path.{ap, ◌∙◌}
use Rattle.plan.specs.Literals.{index_of, halved}
use Rattle.judge.proofs.order.words.var_of.Goals as goal

pub returns : goal.returns
returns c =
    c.ix.ensures ∙
    (c.index.ensures ∙ ap index_of (c.var.ensures ∙ ap halved c.at.ensures))
