-- Each turn counts one latch.
use Rattle.write.proofs.print.Latches.{none-counted, one-counted}
use Rattle.write.proofs.print.latches_length.Goals as goal

pub loop-i-init : goal.loop-i-init
loop-i-init c =
    let a = c.args in
    none-counted a.binary a.latches.now a.resets.now a.n c.requires.n_in_bounds_2

pub loop-i-preserved : goal.loop-i-preserved
loop-i-preserved c =
    let a = c.args in
    one-counted a.binary a.latches.now a.resets.now a.n c.loop-i.sum c.loop-i.i c.latch_length-sum.result c.loop-i.invariant c.loop-i-test.true
    c.latch_length-sum.ensures.value
    c.latch_length-sum.ensures.upper_bound
