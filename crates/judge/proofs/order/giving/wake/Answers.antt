-- The gates of the chain are done one after the other.
use Prim.Native.Nat.{◌-◌, ◌<◌}
use mathlib.Core.Path.{◌≡◌, refl, ◌∙◌}
use native.Mathlib.Omega.{arith}
use lib.ListN.{length}
use Rattle.judge.specs.order.Waiting.{Space}
use Rattle.judge.proofs.order.Spaces.{space-again}
use Rattle.judge.proofs.order.Watching.{watched-below}
use Rattle.judge.proofs.order.Walking.{Woken, wake-step, wake-low, wake-more, wake-less, wake-end}
use Rattle.judge.proofs.order.giving.wake.Goals as goal

pub loop-at-init : goal.loop-at-init
loop-at-init c = (refl, c.requires.1, λ p k. refl)

pub overflow_sub-i : goal.overflow_sub-i
overflow_sub-i c = omega arith

pub overflow_add-n : goal.overflow_add-n
overflow_add-n c = omega arith

pub overflow_add-n-in-loop-at : goal.overflow_add-n-in-loop-at
overflow_add-n-in-loop-at c =
    let space : let A = c.args in Space A.gates.now c.loop-at.t A.n A.a =
    let A = c.args in
    space-again A.gates.now A.t.now c.loop-at.t A.n A.a c.loop-at.invariant.0 c.requires.0 in
    let woken : let A = c.args in Woken A.gates.now c.loop-at.t A.n A.a c.loop-at.at (c.loop-at.at - 1) =
    let A = c.args in
    wake-step A.gates.now c.loop-at.t A.n A.a c.loop-at.at (space) c.loop-at-test.true c.loop-at.invariant.1 in
    let inn : c.loop-at.at - 1 < c.args.a =
    (woken).inn in
    omega (arith, inn)

pub offset_bounds-t-n : goal.offset_bounds-t-n
offset_bounds-t-n c =
    let space : let A = c.args in Space A.gates.now c.loop-at.t A.n A.a =
    let A = c.args in
    space-again A.gates.now A.t.now c.loop-at.t A.n A.a c.loop-at.invariant.0 c.requires.0 in
    let woken : let A = c.args in Woken A.gates.now c.loop-at.t A.n A.a c.loop-at.at (c.loop-at.at - 1) =
    let A = c.args in
    wake-step A.gates.now c.loop-at.t A.n A.a c.loop-at.at (space) c.loop-at-test.true c.loop-at.invariant.1 in
    let inn : c.loop-at.at - 1 < c.args.a =
    (woken).inn in
    omega (arith, inn)

pub bounds-t-n : goal.bounds-t-n
bounds-t-n c =
    let space : let A = c.args in Space A.gates.now c.loop-at.t A.n A.a =
    let A = c.args in
    space-again A.gates.now A.t.now c.loop-at.t A.n A.a c.loop-at.invariant.0 c.requires.0 in
    let woken : let A = c.args in Woken A.gates.now c.loop-at.t A.n A.a c.loop-at.at (c.loop-at.at - 1) =
    let A = c.args in
    wake-step A.gates.now c.loop-at.t A.n A.a c.loop-at.at (space) c.loop-at-test.true c.loop-at.invariant.1 in
    let inn : c.loop-at.at - 1 < c.args.a =
    (woken).inn in
    omega (arith, inn, c.loop-at.invariant.0)

pub hang-requires : goal.hang-requires
hang-requires c =
    let space : let A = c.args in Space A.gates.now c.loop-at.t A.n A.a =
    let A = c.args in
    space-again A.gates.now A.t.now c.loop-at.t A.n A.a c.loop-at.invariant.0 c.requires.0 in
    let woken : let A = c.args in Woken A.gates.now c.loop-at.t A.n A.a c.loop-at.at (c.loop-at.at - 1) =
    let A = c.args in
    wake-step A.gates.now c.loop-at.t A.n A.a c.loop-at.at (space) c.loop-at-test.true c.loop-at.invariant.1 in
    let inn : c.loop-at.at - 1 < c.args.a =
    (woken).inn in
    let A = c.args in
    (space, inn, watched-below A.gates.now c.loop-at.t A.n A.a (space).inside c.loop-at.invariant.1.rest.named (c.loop-at.at - 1) (inn))

pub loop-at-smaller : goal.loop-at-smaller
loop-at-smaller c =
    let space : let A = c.args in Space A.gates.now c.loop-at.t A.n A.a =
    let A = c.args in
    space-again A.gates.now A.t.now c.loop-at.t A.n A.a c.loop-at.invariant.0 c.requires.0 in
    let woken : let A = c.args in Woken A.gates.now c.loop-at.t A.n A.a c.loop-at.at (c.loop-at.at - 1) =
    let A = c.args in
    wake-step A.gates.now c.loop-at.t A.n A.a c.loop-at.at (space) c.loop-at-test.true c.loop-at.invariant.1 in
    let A = c.args in
    wake-less A.gates.now c.loop-at.t c.hang.new.t A.n A.a c.loop-at.at c.ix-at.result
    (woken) c.hang.ensures c.ix-at.ensures

pub loop-at-preserved : goal.loop-at-preserved
loop-at-preserved c =
    let space : let A = c.args in Space A.gates.now c.loop-at.t A.n A.a =
    let A = c.args in
    space-again A.gates.now A.t.now c.loop-at.t A.n A.a c.loop-at.invariant.0 c.requires.0 in
    let woken : let A = c.args in Woken A.gates.now c.loop-at.t A.n A.a c.loop-at.at (c.loop-at.at - 1) =
    let A = c.args in
    wake-step A.gates.now c.loop-at.t A.n A.a c.loop-at.at (space) c.loop-at-test.true c.loop-at.invariant.1 in
    let A = c.args in
    let u = c.hang.new.t in
    let at = c.ix-at.result in
    let done = c.hang.ensures in
    let on = c.ix-at.ensures in
    let same : length u ≡ length c.loop-at.t = c.hang.auto.t in (
      same ∙ c.loop-at.invariant.0,
      wake-more A.gates.now c.loop-at.t u A.n A.a c.loop-at.at at (woken) done on,
      λ p k. wake-low A.gates.now c.loop-at.t u A.n A.a c.loop-at.at at (woken) done on p k ∙ c.loop-at.invariant.2 p k,
    )

pub shape_of-t : goal.shape_of-t
shape_of-t c = c.loop-at.invariant.0

pub returns : goal.returns
returns c =
    let A = c.args in
    (wake-end A.gates.now c.loop-at.t A.n A.a c.loop-at.at (omega (arith, c.loop-at-test.false)) c.loop-at.invariant.1, c.loop-at.invariant.2)
