-- 23 among the first n variables, which are no gates': the constant, inputs and latches. The loop keeps `Judging [] values 0 n v`, which
-- `judging-turn` and `leaf-right` carry from turn to turn.
use mathlib.Core.Path.{sym, ◌∙◌}
use mathlib.Core.List.{[]}
use native.Mathlib.Omega.{arith}
use Rattle.rewire.proofs.Wrong.{judging-turn, leaf-right}
use Rattle.rewire.proofs.wrong_leaf.Goals as goal

pub loop-v-preserved : goal.loop-v-preserved
loop-v-preserved c =
    judging-turn [] c.args.values.now 0 c.args.n c.loop-v.v c.loop-v.invariant (omega (arith, c.loop-v-test.true))
    (leaf-right c.args.values.now c.loop-v.v c.loop-v.auto.v (sym c.is_code.ensures ∙ c.if-not-is_code.false))
