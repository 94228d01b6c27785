-- The groups of both differences.
use native.Mathlib.Omega.{arith}
use Rattle.write.proofs.print.Gates.{sides-count}
use Rattle.write.proofs.print.gate_length.Goals as goal

pub overflow_add-result : goal.overflow_add-result
overflow_add-result c =
    let a = c.args in
    let count = sides-count a.lhs a.rhs0 a.rhs1 _ _ _ _ (omega arith) (omega arith)
    c.above.ensures c.above-2.ensures
    c.groups_in.ensures c.groups_in-2.ensures in
    omega (arith, count.1)

pub returns : goal.returns
returns c =
    let a = c.args in
    let whole = sides-count a.lhs a.rhs0 a.rhs1 _ _ _ _ (omega arith) (omega arith) c.above.ensures
    c.above-2.ensures
    c.groups_in.ensures c.groups_in-2.ensures in
    record { value = whole.0; upper_bound = whole.1 }
