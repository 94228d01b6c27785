-- The values of n resets go into words from `first` on. The loop keeps `Filled`. `filled_more` carries it from turn to turn, and `filled-all` and
-- `resets-loaded` give the answer.
use mathlib.Core.Path.{ap, ◌∙◌}
use native.Mathlib.Omega.{arith}
use Rattle.plan.specs.Outcome.{put}
use Rattle.step.proofs.values.Filling.{filled_more, filled-all}
use Rattle.step.proofs.values.Codes.{resets-loaded}
use Rattle.step.proofs.values.load_resets.Goals as goal

pub loop-i-preserved : goal.loop-i-preserved
loop-i-preserved c =
    filled_more _ _ _ c.loop-i.i c.loop-i.t _ c.loop-i.invariant (omega (arith, c.requires.n_in_bounds_2)) c.word_of_reset.ensures

pub returns : goal.returns
returns c =
    let a = c.args in
    filled-all _ _ _ a.n c.loop-i.i c.loop-i.t c.loop-i.invariant (omega arith)
    ∙ ap (put a.t.now a.first) (resets-loaded a.resets.now a.n c.requires.n_in_bounds)
