-- Each turn writes one gate that another follows; the last one is written by itself.
use native.Mathlib.Omega.{arith}
use Rattle.write.proofs.print.Gates.{none-printed, followed-fits, one-begun}
use Rattle.write.proofs.print.write_gates.Goals as goal

pub loop-i-init : goal.loop-i-init
loop-i-init c =
    let a = c.args in
    none-printed a.gates.now a.n a.out.now a.at c.requires.gates_in_bounds

pub begin_gate-next-requires : goal.begin_gate-next-requires
begin_gate-next-requires c =
    let a = c.args in
    followed-fits a.gates.now a.n a.out.now a.at c.loop-i.out c.loop-i.next c.loop-i.i c.loop-i.invariant (omega arith)

pub loop-i-preserved : goal.loop-i-preserved
loop-i-preserved c =
    let a = c.args in
    one-begun a.gates.now a.n a.out.now a.at c.loop-i.out c.loop-i.next c.loop-i.i c.loop-i.invariant _ _ (omega arith)
    c.begin_gate-next.auto.out c.begin_gate-next.ensures.value c.begin_gate-next.ensures.begun
