-- The constant and the state of the resets, from which a run starts. The answers are given by `rests-loaded` and `constant-set`.
use mathlib.Core.Path.{◌∙◌}
use mathlib.Core.List.{map}
use native.Mathlib.Omega.{arith}
use lib.ListN.{take, set, length-map, length-set}
use lib.Seq.{length-take-le}
use Rattle.plan.specs.Step.{reset_value}
use Rattle.step.proofs.sweep.Loading.{constant-set, rests-loaded}
use Rattle.step.proofs.sweep.start_values.Goals as goal

pub shape_of-t : goal.shape_of-t
shape_of-t c = c.load_resets.auto.t ∙ length-set c.args.t.now 0 1

pub returns : goal.returns
returns c =
    let a = c.args in
    let first = map reset_value (take a.n.L a.resets.now) in
    rests-loaded a.n (set a.t.now 0 1) first _ (constant-set a.t.now (omega (arith, c.requires.1)))
    (omega (arith, c.requires.1, length-set a.t.now 0 1))
    (length-map (take a.n.L a.resets.now) reset_value ∙ length-take-le a.n.L a.resets.now c.requires.0)
    c.load_resets.ensures
