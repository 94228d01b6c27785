-- All latches take their next values at once. The loop keeps `Filled`. `filled-front` carries it from turn to turn, and `filled-all`, `filled-whole`
-- and `words_take` give the answer.
use mathlib.Core.Path.{refl, sym, ◌∙◌}
use native.Mathlib.Omega.{arith}
use lib.ListN.{length}
use Rattle.laws.proofs.Tables.{words_take}
use Rattle.step.proofs.values.Filling.{filled-front, filled-all}
use Rattle.plain.proofs.Filling.{filled-whole}
use Rattle.plain.proofs.take_next.Goals as goal

pub loop-i-preserved : goal.loop-i-preserved
loop-i-preserved c = filled-front _ _ c.loop-i.i c.loop-i.state _ c.loop-i.invariant (omega arith) refl

pub returns : goal.returns
returns c =
    filled-all _ _ _ (length c.args.state.now) c.loop-i.i c.loop-i.state c.loop-i.invariant (omega arith)
    ∙ (filled-whole c.args.state.now _ (length c.args.state.now) refl
    ∙ sym (words_take c.args.t.now (length c.args.state.now) c.requires.long))
