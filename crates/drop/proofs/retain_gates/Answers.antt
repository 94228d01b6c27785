-- Each turn retains one gate, or none.
use Rattle.drop.proofs.Retaining.{begun, going_start, going_more, going_end}
use Rattle.drop.proofs.retain_gates.Goals as goal

pub loop-k-init : goal.loop-k-init
loop-k-init c = going_start _ _ _ _ _

pub loop-k-preserved : goal.loop-k-preserved
loop-k-preserved c =
    going_more c.loop-k-test.true c.retain_gate-n.auto.to c.retain_gate-n.auto.t c.retain_gate-n.ensures c.loop-k.invariant

pub returns : goal.returns
returns c = λ vs m. going_end c.loop-k-test.false c.loop-k.invariant vs (begun vs _ _ _ c.run_on.ensures m)
