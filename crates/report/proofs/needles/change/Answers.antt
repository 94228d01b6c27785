-- A needle's fourth word one step later. The answer is that of the call below it.
use Prim.Native.Nat.{ℕ, ◌+◌, ◌*◌, ◌/◌, ◌%◌}
use mathlib.Core.Path.{ap}
use native.Mathlib.Omega.{arith}
use Rattle.report.proofs.needles.Counting.{differs-small}
use Rattle.report.proofs.needles.change.Goals as goal

pub overflow_add-result : goal.overflow_add-result
overflow_add-result c =
    let a = c.args in
    omega (arith, c.requires.0, c.differs.ensures, differs-small (a.last % 4) a.value)

pub overflow_mul-result : goal.overflow_mul-result
overflow_mul-result c =
    let a = c.args in
    omega (arith, c.requires.0, c.differs.ensures, differs-small (a.last % 4) a.value)

pub overflow_add-result-2 : goal.overflow_add-result-2
overflow_add-result-2 c =
    let a = c.args in
    omega (arith, c.requires.0, c.requires.1, c.differs.ensures, differs-small (a.last % 4) a.value)

pub returns : goal.returns
returns c = let a = c.args in ap (λ (k : ℕ). (a.last / 4 + k) * 4 + a.value) c.differs.ensures
