-- The same from the state that is given, over which the state after the last line goes. The answers are given by `state-left`, `state-long` and
-- `state-rests`.
use mathlib.Core.Path.{◌≡◌, ◌∙◌}
use native.Mathlib.Omega.{arith}
use lib.ListN.{length, length-set}
use Rattle.step.proofs.Buffers.{state-long, state-rests}
use Rattle.runs.proofs.trace.Buffers.{state-resting, state-left}
use Rattle.runs.proofs.trace.trace_from.Goals as goal

pub bounds-scratch-0 : goal.bounds-scratch-0
bounds-scratch-0 c =
    let p = c.requires.room in
    omega (arith, p.scratch-long)

pub load-requires : goal.load-requires
load-requires c =
    omega (arith, c.requires.room.scratch-long, c.requires.room.runs.fits.sum, c.requires.state_len, length-set c.args.scratch.now 0 1)

pub trace_lines-requires : goal.trace_lines-requires
trace_lines-requires c =
    record { resting = state-resting c.requires.room c.args.state.now c.requires.state_len c.load.ensures c.load.auto.t; listed = c.requires.listed }

pub overflow_add-n-2 : goal.overflow_add-n-2
overflow_add-n-2 c =
    let f = c.requires.room.runs.fits in
    omega (arith, f.sum, f.most-M)

pub store-requires : goal.store-requires
store-requires c =
    let same : length c.load.new.t ≡ length c.args.scratch.now =
    c.load.auto.t ∙ length-set c.args.scratch.now 0 1 in
    let after = c.trace_lines.auto.scratch in
    omega (arith, c.requires.room.runs.fits.sum, c.requires.room.scratch-long, c.requires.state_len, after, same)

pub shape_of-scratch : goal.shape_of-scratch
shape_of-scratch c =
    let same : length c.load.new.t ≡ length c.args.scratch.now =
    c.load.auto.t ∙ length-set c.args.scratch.now 0 1 in
    c.trace_lines.auto.scratch ∙ same

pub returns : goal.returns
returns c =
    λ others r.
    let b = c.requires.room in
    let state = c.args.state.now in
    let long = c.requires.state_len in
    let e1 = c.load.ensures in
    let lines = c.trace_lines.ensures in
    state-left b state long e1 _ _ _ _ _ _ (lines others _ r (state-long b state long e1) (state-rests b state long e1))
    c.store.ensures
