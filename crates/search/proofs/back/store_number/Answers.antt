use mathlib.Core.Path.{◌∙◌, ap}
use native.Mathlib.Omega.{arith}
use Rattle.plan.specs.Outcome.{put}
use Rattle.plan.specs.Step.{code_of}
use Rattle.step.proofs.values.Filling.{filled_more, filled-all}
use Rattle.search.proofs.Numbers.{bits-firsts}
use Rattle.search.proofs.back.store_number.Goals as goal

pub loop-i-preserved : goal.loop-i-preserved
loop-i-preserved c = filled_more _ _ _ c.loop-i.i c.loop-i.t _ c.loop-i.invariant (omega arith) c.bit_code.ensures

pub returns : goal.returns
returns c =
    filled-all _ _ _ c.args.n c.loop-i.i c.loop-i.t c.loop-i.invariant (omega arith)
    ∙ ap (put c.args.t.now c.args.first) (bits-firsts code_of c.args.n c.args.k)
