use Prim.Native.Nat.{◌-◌, ◌<◌}
use native.Mathlib.Omega.{arith}
use lib.ListN.{length}
use Rattle.search.proofs.Walking.{Counting, counting-first, counting_more, counting-less, counting-done, back-there}
use Rattle.search.proofs.back.steps_to.Goals as goal

pub overflow_mul-place : goal.overflow_mul-place
overflow_mul-place c = let w = c.requires in omega (arith, w.there, w.long, w.few)

pub overflow_add-place : goal.overflow_add-place
overflow_add-place c = let w = c.requires in omega (arith, w.there, w.long, w.few)

pub offset_bounds-met-place : goal.offset_bounds-met-place
offset_bounds-met-place c = let w = c.requires in omega (arith, w.there, w.long, w.few)

pub bounds-met-place : goal.bounds-met-place
bounds-met-place c = let w = c.requires in omega (arith, w.there, w.long, w.few)

pub loop-from-init : goal.loop-from-init
loop-from-init c = λ y ways r h. counting-first r c.args.place h _ c.ix-from.ensures

pub overflow_add-steps : goal.overflow_add-steps
overflow_add-steps c =
    let counted : let w = c.requires in Counting w.y w.ways c.args.met.now c.args.place c.loop-from.steps c.loop-from.from =
    let w = c.requires in c.loop-from.invariant w.y w.ways w.rows w.there in
    let k = counted in let w = c.requires in omega (arith, k.falls, w.there, w.few)

pub overflow_sub-from : goal.overflow_sub-from
overflow_sub-from c = omega (arith, c.loop-from-test.true)

pub overflow_mul-from : goal.overflow_mul-from
overflow_mul-from c =
    let counted : let w = c.requires in Counting w.y w.ways c.args.met.now c.args.place c.loop-from.steps c.loop-from.from =
    let w = c.requires in c.loop-from.invariant w.y w.ways w.rows w.there in
    let back : c.loop-from.from - 1 < length c.requires.ways =
    let w = c.requires in
    back-there w.rows c.args.place c.loop-from.steps c.loop-from.from (counted) c.loop-from-test.true in
    let w = c.requires in omega (arith, back, w.long, w.few, c.loop-from-test.true)

pub overflow_add-from : goal.overflow_add-from
overflow_add-from c =
    let counted : let w = c.requires in Counting w.y w.ways c.args.met.now c.args.place c.loop-from.steps c.loop-from.from =
    let w = c.requires in c.loop-from.invariant w.y w.ways w.rows w.there in
    let back : c.loop-from.from - 1 < length c.requires.ways =
    let w = c.requires in
    back-there w.rows c.args.place c.loop-from.steps c.loop-from.from (counted) c.loop-from-test.true in
    let w = c.requires in omega (arith, back, w.long, w.few, c.loop-from-test.true)

pub offset_bounds-met-from : goal.offset_bounds-met-from
offset_bounds-met-from c =
    let counted : let w = c.requires in Counting w.y w.ways c.args.met.now c.args.place c.loop-from.steps c.loop-from.from =
    let w = c.requires in c.loop-from.invariant w.y w.ways w.rows w.there in
    let back : c.loop-from.from - 1 < length c.requires.ways =
    let w = c.requires in
    back-there w.rows c.args.place c.loop-from.steps c.loop-from.from (counted) c.loop-from-test.true in
    let w = c.requires in omega (arith, back, w.long, w.few, c.loop-from-test.true)

pub bounds-met-from : goal.bounds-met-from
bounds-met-from c =
    let counted : let w = c.requires in Counting w.y w.ways c.args.met.now c.args.place c.loop-from.steps c.loop-from.from =
    let w = c.requires in c.loop-from.invariant w.y w.ways w.rows w.there in
    let back : c.loop-from.from - 1 < length c.requires.ways =
    let w = c.requires in
    back-there w.rows c.args.place c.loop-from.steps c.loop-from.from (counted) c.loop-from-test.true in
    let w = c.requires in omega (arith, back, w.long, w.few, c.loop-from-test.true)

pub loop-from-smaller : goal.loop-from-smaller
loop-from-smaller c =
    let counted : let w = c.requires in Counting w.y w.ways c.args.met.now c.args.place c.loop-from.steps c.loop-from.from =
    let w = c.requires in c.loop-from.invariant w.y w.ways w.rows w.there in
    let w = c.requires in
    counting-less w.rows c.args.place c.loop-from.steps c.loop-from.from (counted) c.loop-from-test.true _ c.ix-from-in-loop-from.ensures

pub loop-from-preserved : goal.loop-from-preserved
loop-from-preserved c =
    λ y ways r h.
    counting_more r c.args.place c.loop-from.steps c.loop-from.from (c.loop-from.invariant y ways r h) c.loop-from-test.true _
    c.ix-from-in-loop-from.ensures

pub returns : goal.returns
returns c =
    λ y ways r h.
    counting-done r c.args.place c.loop-from.steps c.loop-from.from (c.loop-from.invariant y ways r h)
    (omega (arith, c.loop-from-test.false))
