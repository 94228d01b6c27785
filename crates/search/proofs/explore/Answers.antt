use mathlib.Core.Path.{refl}
use native.Mathlib.Omega.{arith}
use Rattle.plan.specs.Circuit.{seven}
use Rattle.search.specs.Exploring.{Exploring}
use Rattle.search.proofs.Looping.{exploring_all, place_is, move-is, reached-few, reached-most, never_here, out-here, found_here, left_here}
use Rattle.search.proofs.explore.Goals as goal

pub returns-then-reached-place : goal.returns-then-reached-place
returns-then-reached-place c =
    λ split inputs resets r sd e.
    never_here r _ c.loop-tries.tries c.loop-tries.reached _ c.loop-tries.met c.loop-tries.marks (c.loop-tries.invariant split inputs resets r sd e) c.power-moves.ensures
    c.if-reached-place.true

pub take_turn-requires : goal.take_turn-requires
take_turn-requires c =
    let left : let a = c.args in Exploring c.requires.split a.n (seven c.requires.inputs a.latches.now a.outputs.now a.gates.now c.requires.resets a.bads.now a.constraints.now) a.allowance c.loop-tries.tries c.loop-tries.reached c.loop-tries.met c.loop-tries.marks =
    let p = c.requires in c.loop-tries.invariant p.split p.inputs p.resets p.runs p.begun p.count in
    let a = c.args in
    let p = c.requires in
    let ex = left in
    let em = c.power-moves.ensures in
    record {
      split = p.split;
      inputs = p.inputs;
      resets = p.resets;
      tries = c.loop-tries.tries;
      ways = ex.ways;
      runs = p.runs;
      scratch-long = omega (arith, p.scratch-long, c.loop-tries.auto.scratch);
      few-latches = p.few-latches;
      few-inputs = p.few-inputs;
      met-long = omega (arith, p.met-long, c.loop-tries.auto.met);
      marks-long = omega (arith, p.marks-long, c.loop-tries.auto.marks);
      searched = ex.searched;
      count = ex.count;
      here = place_is p.runs _ c.loop-tries.tries c.loop-tries.reached _ c.loop-tries.met c.loop-tries.marks ex em;
      move = move-is p.runs _ c.loop-tries.tries c.loop-tries.reached _ c.loop-tries.met c.loop-tries.marks ex em;
      there = omega (arith, c.if-reached-place.false);
      few = reached-most p.runs _ c.loop-tries.tries c.loop-tries.reached _ c.loop-tries.met c.loop-tries.marks ex em p.few-latches;
      rows_long = omega (arith, p.met-long, c.loop-tries.auto.met, reached-few p.runs _ c.loop-tries.tries c.loop-tries.reached _ c.loop-tries.met c.loop-tries.marks ex em);
    }

pub returns-in_default : goal.returns-in_default
returns-in_default c =
    λ split inputs resets r sd e.
    let ex = c.loop-tries.invariant split inputs resets r sd e in
    let em = c.power-moves.ensures in
    found_here r _ c.loop-tries.tries c.loop-tries.reached _ c.loop-tries.met c.loop-tries.marks ex em c.loop-tries-test.true _ _ _
    (c.take_turn.ensures split inputs resets c.loop-tries.tries ex.ways r ex.searched
    ex.count
    (place_is r _ c.loop-tries.tries c.loop-tries.reached _ c.loop-tries.met c.loop-tries.marks ex em) (move-is r _ c.loop-tries.tries c.loop-tries.reached _ c.loop-tries.met c.loop-tries.marks ex em))
    c.in_default.is (omega (arith, c.if-reached-place.false))

pub loop-tries-preserved : goal.loop-tries-preserved
loop-tries-preserved c =
    λ split inputs resets r sd e.
    let ex = c.loop-tries.invariant split inputs resets r sd e in
    let em = c.power-moves.ensures in
    left_here r _ c.loop-tries.tries c.loop-tries.reached _ c.loop-tries.met c.loop-tries.marks ex em c.loop-tries-test.true _ _ _
    (c.take_turn.ensures split inputs resets c.loop-tries.tries ex.ways r
    ex.searched ex.count
    (place_is r _ c.loop-tries.tries c.loop-tries.reached _ c.loop-tries.met c.loop-tries.marks ex em) (move-is r _ c.loop-tries.tries c.loop-tries.reached _ c.loop-tries.met c.loop-tries.marks ex em))
    _ c.in-Some.is

pub returns-then-reached-allowance : goal.returns-then-reached-allowance
returns-then-reached-allowance c =
    λ split inputs resets r sd e.
    let ex = exploring_all (omega arith) (c.loop-tries.invariant split inputs resets r sd e) in
    never_here r _ _ c.loop-tries.reached _ c.loop-tries.met c.loop-tries.marks ex c.power-moves.ensures c.if-reached-allowance.true

pub returns : goal.returns
returns c =
    λ split inputs resets r sd e.
    let ex = exploring_all (omega arith) (c.loop-tries.invariant split inputs resets r sd e) in
    out-here r _ _ c.loop-tries.reached _ c.loop-tries.met c.loop-tries.marks ex c.power-moves.ensures (omega (arith, c.if-reached-allowance.false)) refl
