-- The loop keeps the digits of the whole number; the measure is what is left of it.
use mathlib.Core.Path.{ap}
use Prim.Native.Nat.{ℕ, ◌+◌}
use native.Mathlib.Omega.{arith}
use lib.ListN.{length-set}
use Rattle.codec.proofs.numbers.Filling.{starts, wide, begun, inside, step, ends}
use Rattle.codec.proofs.numbers.put_digits.Goals as goal

pub overflow_add-end : goal.overflow_add-end
overflow_add-end c = omega (arith, c.requires, c.digits_in.ensures)

pub loop-rest-init : goal.loop-rest-init
loop-rest-init c =
    let start = c.before.before in
    let a = start.args in
    starts a.out.now a.at a.n _ c.digits_in.ensures (omega (arith, start.requires, c.digits_in.ensures))

pub overflow_sub-i : goal.overflow_sub-i
overflow_sub-i c = omega (arith, begun c.loop-rest.invariant)

pub bounds-out-i : goal.bounds-out-i
bounds-out-i c = omega (arith, begun c.loop-rest.invariant, inside c.loop-rest.invariant)

pub loop-rest-preserved : goal.loop-rest-preserved
loop-rest-preserved c = step c.loop-rest.invariant c.loop-rest-test.true

pub bounds-out-at : goal.bounds-out-at
bounds-out-at c = omega (arith, begun c.loop-rest.invariant, inside c.loop-rest.invariant)

pub shape_of-out : goal.shape_of-out
shape_of-out c = simp length-set (wide c.loop-rest.invariant)

pub returns : goal.returns
returns c =
    let a = c.args in
    record { value = ap (λ (k : ℕ). a.at + k) c.digits_in.ensures; out_after = ends c.loop-rest.invariant c.loop-rest-test.false }
