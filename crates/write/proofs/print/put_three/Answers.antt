-- The groups, and up to two bytes more.
use Prim.Native.Nat.{◌/◌}
use mathlib.Core.Path.{refl}
use native.Mathlib.Omega.{arith}
use lib.Dec.{leb}
use lib.ListN.{length-set}
use Rattle.write.proofs.print.Begun.{marked, mark-one, three-end, three-begun}
use Rattle.write.proofs.print.put_three.Goals as goal

pub overflow_cast-out : goal.overflow_cast-out
overflow_cast-out c = let d = c.args.d in omega (arith, marked d (leb 128 d), mark-one (leb 128 d))

pub overflow_cast-out-2 : goal.overflow_cast-out-2
overflow_cast-out-2 c = let d = c.args.d in omega (arith, marked (d / 128) (leb 16384 d), mark-one (leb 16384 d))

pub bounds-out-at-2 : goal.bounds-out-at-2
bounds-out-at-2 c = simp length-set (omega (arith, c.requires.at_in_bounds))

pub bounds-out-at-3 : goal.bounds-out-at-3
bounds-out-at-3 c = simp length-set (omega (arith, c.requires.at_in_bounds))

pub overflow_cast-result : goal.overflow_cast-result
overflow_cast-result c = omega (arith, mark-one (leb 128 c.args.d))

pub overflow_add-result-2 : goal.overflow_add-result-2
overflow_add-result-2 c = omega (arith, c.requires.at_in_bounds, mark-one (leb 128 c.args.d))

pub overflow_cast-result-2 : goal.overflow_cast-result-2
overflow_cast-result-2 c = omega (arith, mark-one (leb 16384 c.args.d))

pub overflow_add-result-3 : goal.overflow_add-result-3
overflow_add-result-3 c =
    omega (arith, c.requires.at_in_bounds, mark-one (leb 128 c.args.d), mark-one (leb 16384 c.args.d))

pub returns : goal.returns
returns c =
    let a = c.args in
    let d = a.d in
    record { value = three-end a.out.now a.at d c.requires.d_bound c.requires.at_in_bounds _ _ _ (marked d (leb 128 d)) (marked (d / 128) (leb 16384 d)) refl; begun = three-begun a.out.now a.at d c.requires.d_bound c.requires.at_in_bounds _ _ _ (marked d (leb 128 d)) (marked (d / 128) (leb 16384 d)) refl }
