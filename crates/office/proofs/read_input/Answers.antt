-- Each read adds the bytes that it gave.
use Rattle.std.proofs.Common.{rules}
use Rattle.office.proofs.Filled.{Consumes-behind}
use Rattle.office.proofs.read_input.Goals as goal

pub loop-n-preserved : goal.loop-n-preserved
loop-n-preserved g c =
    (search rules, Consumes-behind _ _ _ _ _ _ _ _ c.loop-n.invariant.0 c.in-Ok.ensures.bound.0 c.loop-n.invariant.1 c.in-Ok.ensures.bytes.0)
