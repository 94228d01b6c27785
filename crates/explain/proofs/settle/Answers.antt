-- The values of all literals in a step whose tables and vectors are good. The answers are given by `stands` and `with-outputs`.
use mathlib.Core.Path.{◌∙◌}
use native.Mathlib.Omega.{arith}
use lib.ListN.{length-set}
use Rattle.step.proofs.Buffers.{stands, ready}
use Rattle.explain.proofs.Outputs.{with-outputs}
use Rattle.explain.proofs.settle.Goals as goal

pub load-requires : goal.load-requires
load-requires c =
    omega (arith, c.requires.room.scratch-long, c.requires.room.runs.fits.sum, c.requires.vectors.state-length, length-set c.args.scratch.now 0 1)

pub load-requires-2 : goal.load-requires-2
load-requires-2 c =
    omega (arith, c.requires.room.scratch-long, c.requires.room.runs.fits.sum, c.requires.vectors.inputs-length, c.load.auto.t, length-set c.args.scratch.now 0 1)

pub step_values-requires : goal.step_values-requires
step_values-requires c =
    ready c.requires.room (with-outputs c.requires.vectors) c.load.ensures c.load.auto.t c.load-2.ensures c.load-2.auto.t

pub shape_of-scratch : goal.shape_of-scratch
shape_of-scratch c = c.step_values.auto.t ∙ c.load-2.auto.t ∙ c.load.auto.t ∙ length-set c.args.scratch.now 0 1

pub returns : goal.returns
returns c =
    λ x r.
    c.step_values.ensures x _ _ r
    (stands c.requires.room (with-outputs c.requires.vectors) c.load.ensures c.load.auto.t c.load-2.ensures c.load-2.auto.t)
