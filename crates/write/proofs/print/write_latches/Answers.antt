-- Each turn writes one latch.
use Rattle.write.proofs.print.Latches.{none-printed, latch-fits, one-printed}
use Rattle.write.proofs.print.write_latches.Goals as goal

pub loop-i-init : goal.loop-i-init
loop-i-init c =
    let a = c.args in
    none-printed a.binary a.latches.now a.resets.now a.n a.out.now a.at c.requires.n_in_bounds_2 c.requires.resets_in_bounds

pub write_latch-next-requires : goal.write_latch-next-requires
write_latch-next-requires c =
    let a = c.args in
    latch-fits a.binary a.latches.now a.resets.now a.n a.out.now a.at c.loop-i.out c.loop-i.next c.loop-i.i c.loop-i.invariant
    c.loop-i-test.true

pub loop-i-preserved : goal.loop-i-preserved
loop-i-preserved c =
    let a = c.args in
    one-printed a.binary a.latches.now a.resets.now a.n a.out.now a.at c.loop-i.out c.loop-i.next c.loop-i.i c.loop-i.invariant _ _
    c.loop-i-test.true
    c.write_latch-next.ensures.out_after c.write_latch-next.ensures.value
