-- Each turn marks one variable.
use mathlib.Core.Path.{ap}
use Rattle.plan.specs.Literals.{var_of, word_of}
use Rattle.drop.proofs.Marking.{column-turn}
use Rattle.drop.proofs.mark_column.Goals as goal

pub loop-i-preserved : goal.loop-i-preserved
loop-i-preserved c =
    column-turn _ _ _ _ _ _ _ _ (ap var_of (ap word_of c.at.ensures)) c.mark.auto.t c.mark.ensures c.loop-i.invariant
