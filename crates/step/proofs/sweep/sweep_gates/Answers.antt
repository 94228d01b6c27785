-- The same where the literals' words start at `lits`: that part is lent, so that no look adds it. Each answer is given by `swept-there`.
use Rattle.step.proofs.sweep.Sweeping.{gated, swept-there}
use Rattle.step.proofs.sweep.sweep_gates.Goals as goal

pub settle_gates-requires : goal.settle_gates-requires
settle_gates-requires c = gated c.requires

pub returns : goal.returns
returns c = swept-there c.requires _ c.settle_gates.ensures
