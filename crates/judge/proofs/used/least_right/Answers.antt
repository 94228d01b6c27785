-- The least so far takes in one gate more at each turn.
use Rattle.judge.proofs.used.Steps.{next-right}
use Rattle.judge.proofs.used.least_right.Goals as goal

pub loop-i-preserved : goal.loop-i-preserved
loop-i-preserved c =
    let a = c.args in
    next-right a.gates.now a.marks.now a.before c.loop-i.low c.loop-i.i _ _ c.loop-i.invariant c.lower-low.ensures
    c.lower-low-in-loop-i.ensures
