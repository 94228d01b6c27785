-- A step whose tables and vectors are good. The answers are given by `stored` and `stands`.
use mathlib.Core.Path.{◌≡◌, ◌∙◌}
use mathlib.Core.List.{map}
use native.Mathlib.Omega.{arith}
use lib.ListN.{length, length-set}
use Rattle.plan.specs.Step.{value_of}
use Rattle.plan.specs.Circuit.{circuit_of}
use Rattle.step.specs.sweep.Running.{these, Stands, Ready}
use Rattle.step.proofs.Buffers.{stands, ready, stored}
use Rattle.step.proofs.step_vectors.Goals as goal

pub bounds-scratch-0 : goal.bounds-scratch-0
bounds-scratch-0 c = omega (arith, c.requires.room.scratch-long)

pub load-requires : goal.load-requires
load-requires c =
    omega (arith, c.requires.room.scratch-long, c.requires.room.runs.fits.sum, c.requires.vectors.state-length, length-set c.args.scratch.now 0 1)

pub load-requires-2 : goal.load-requires-2
load-requires-2 c =
    omega (arith, c.requires.room.scratch-long, c.requires.room.runs.fits.sum, c.requires.vectors.inputs-length, c.load.auto.t, length-set c.args.scratch.now 0 1)

pub step_values-requires : goal.step_values-requires
step_values-requires c =
    let asked : let a = c.args in Ready a.n a.latches.now a.outputs.now a.gates.now c.load-2.new.t =
    ready c.requires.room c.requires.vectors c.load.ensures c.load.auto.t c.load-2.ensures c.load-2.auto.t in
    asked

pub overflow_add-n-2 : goal.overflow_add-n-2
overflow_add-n-2 c =
    let p = c.requires.room in
    omega (arith, p.runs.fits.sum, p.runs.fits.most-M)

pub store-requires : goal.store-requires
store-requires c =
    let same : length c.step_values.new.t ≡ length c.args.scratch.now =
    c.step_values.auto.t ∙ c.load-2.auto.t ∙ c.load.auto.t
    ∙ length-set c.args.scratch.now 0 1 in
    omega (arith, c.requires.room.scratch-long, c.requires.room.runs.fits.sum, c.requires.vectors.state-length, same)

pub overflow_add-n-3 : goal.overflow_add-n-3
overflow_add-n-3 c =
    let f = c.requires.room.runs.fits in
    omega (arith, f.sum, f.most-M)

pub store-requires-2 : goal.store-requires-2
store-requires-2 c =
    let same : length c.step_values.new.t ≡ length c.args.scratch.now =
    c.step_values.auto.t ∙ c.load-2.auto.t ∙ c.load.auto.t
    ∙ length-set c.args.scratch.now 0 1 in
    omega (arith, c.requires.room.scratch-long, c.requires.room.runs.fits.sum, c.requires.vectors.outputs-length, same)

pub shape_of-scratch : goal.shape_of-scratch
shape_of-scratch c =
    let same : length c.step_values.new.t ≡ length c.args.scratch.now =
    c.step_values.auto.t ∙ c.load-2.auto.t ∙ c.load.auto.t
    ∙ length-set c.args.scratch.now 0 1 in
    same

pub returns : goal.returns
returns c =
    let stand : let a = c.args in Stands a.n (map value_of a.state.now) (map value_of a.ins.now) c.load-2.new.t =
    stands c.requires.room c.requires.vectors c.load.ensures c.load.auto.t c.load-2.ensures c.load-2.auto.t in
    λ others r.
    let n = c.args in
    stored c.requires.room c.requires.vectors c.load.ensures c.load.auto.t c.load-2.ensures
    c.load-2.auto.t (circuit_of n.n (these others n.latches.now n.outputs.now n.gates.now)) _ _ _
    (c.step_values.ensures others _ _ r (stand)) c.store.ensures c.store-2.ensures
