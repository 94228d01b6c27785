-- Each turn puts one group, and what is left completes what was to be put.
use mathlib.Core.Path.{refl}
use native.Mathlib.Omega.{arith}
use lib.ListN.{length-set}
use Rattle.codec.proofs.differences.Bits.{high7}
use Rattle.codec.proofs.differences.Groups.{in-room, next-group, last_end, last-group}
use Rattle.codec.proofs.differences.put_groups.Goals as goal

pub loop-x-init : goal.loop-x-init
loop-x-init c = record { left = refl; ends = refl; room = c.requires; size = refl; most = omega arith }

pub overflow_cast-out : goal.overflow_cast-out
overflow_cast-out c = omega (arith, high7 c.loop-x.x)

pub bounds-out-i : goal.bounds-out-i
bounds-out-i c = in-room c.loop-x.invariant

pub overflow_add-i : goal.overflow_add-i
overflow_add-i c = omega (arith, in-room c.loop-x.invariant)

pub loop-x-smaller : goal.loop-x-smaller
loop-x-smaller c = omega arith

pub loop-x-preserved : goal.loop-x-preserved
loop-x-preserved c = next-group c.loop-x.invariant c.loop-x-test.true _ (high7 c.loop-x.x)

pub overflow_cast-out-2 : goal.overflow_cast-out-2
overflow_cast-out-2 c = omega arith

pub bounds-out-i-2 : goal.bounds-out-i-2
bounds-out-i-2 c = in-room c.loop-x.invariant

pub overflow_add-result : goal.overflow_add-result
overflow_add-result c = omega (arith, in-room c.loop-x.invariant)

pub shape_of-out : goal.shape_of-out
shape_of-out c = simp length-set c.loop-x.invariant.size

pub returns : goal.returns
returns c =
    record { value = last_end c.loop-x.invariant c.loop-x-test.false; out_after = last-group c.loop-x.invariant c.loop-x-test.false }
