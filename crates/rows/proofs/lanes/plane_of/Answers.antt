-- The rows in which a literal may be 1. The answer is that of the call below it.
use mathlib.Core.Path.{ap, ◌∙◌}
use Rattle.rows.specs.lanes.Words.{plane_at}
use Rattle.rows.proofs.lanes.plane_of.Goals as goal

pub returns : goal.returns
returns c = c.joined.ensures ∙ ap (plane_at c.args.t.now) c.word.ensures
