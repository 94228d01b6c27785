-- The values of words from `first` on fill a vector. The loop keeps `Filled`. `filled-front` carries it from turn to turn, and `filled-all` and
-- `stored` give the answer.
use mathlib.Core.Path.{refl, ◌∙◌}
use native.Mathlib.Omega.{arith}
use lib.ListN.{length}
use Rattle.step.proofs.values.Filling.{filled-front, filled-all}
use Rattle.step.proofs.values.Codes.{stored}
use Rattle.step.proofs.values.store.Goals as goal

pub loop-i-preserved : goal.loop-i-preserved
loop-i-preserved c = filled-front _ _ c.loop-i.i c.loop-i.codes _ c.loop-i.invariant (omega arith) c.code_of.ensures

pub returns : goal.returns
returns c =
    filled-all _ _ _ (length c.args.codes.now) c.loop-i.i c.loop-i.codes c.loop-i.invariant (omega arith)
    ∙ stored c.args.t.now c.args.first (length c.args.codes.now) c.args.codes.now refl c.requires
