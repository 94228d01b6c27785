-- The least so far takes in one word more at each turn.
use Rattle.judge.proofs.used.Steps.{next_low}
use Rattle.judge.proofs.used.least.Goals as goal

pub loop-i-preserved : goal.loop-i-preserved
loop-i-preserved c =
    let a = c.args in
    next_low a.table.now a.start a.stride a.marks.now a.before c.loop-i.low c.loop-i.i _ c.loop-i.invariant c.lower-low.ensures
