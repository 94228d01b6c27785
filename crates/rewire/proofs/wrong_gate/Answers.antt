-- 23 among the gates, whose variables run on from `base`, where all values below are right: each is judged by those of its right sides. The loop
-- keeps `Gating gates a base values j`. `gating-turn` carries it from turn to turn, and `gating-stop` gives the answer.
use Rattle.rewire.proofs.Wrong.{gating-turn, gating-stop, row_at}
use Rattle.rewire.proofs.wrong_gate.Goals as goal

pub gate_code-requires : goal.gate_code-requires
gate_code-requires c = row_at _ _ _ _ c.requires.ordered _ c.loop-j-test.true

pub returns-then-values-base : goal.returns-then-values-base
returns-then-values-base c =
    gating-stop _ _ _ _ c.requires.ordered _ c.loop-j-test.true _ c.gate_code.ensures c.loop-j.invariant c.if-values-base.true

pub loop-j-preserved : goal.loop-j-preserved
loop-j-preserved c =
    gating-turn _ _ _ _ c.requires.ordered _ c.loop-j-test.true _ c.gate_code.ensures c.loop-j.invariant c.if-values-base.false
