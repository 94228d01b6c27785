-- The lowest bit of the rest of the word, or none.
use native.Mathlib.Omega.{arith}
use Prim.Native.Nat.{◌+◌, ◌/◌, ◌%◌, ◌^◌}
use lib.Count.{trailing_le}
use lib.ListN.{get_or}
use Rattle.tables.proofs.bitmap.Next.{next-none, next-some}
use Rattle.tables.proofs.bitmap.next_on.Goals as goal

pub returns-then-w-eq0 : goal.returns-then-w-eq0
returns-then-w-eq0 c = let A = c.args in next-none A.t.now A.p A.i c.if-w-eq0.true

pub overflow_cast-result : goal.overflow_cast-result
overflow_cast-result c =
    let A = c.args in
    record { fits = omega (arith, trailing_le 32 (get_or A.t.now (A.p + A.i / 32) 0 / 2 ^ (A.i % 32))) }

pub overflow_add-result-2 : goal.overflow_add-result-2
overflow_add-result-2 c =
    let A = c.args in
    record { fits = omega (arith, trailing_le 32 (get_or A.t.now (A.p + A.i / 32) 0 / 2 ^ (A.i % 32))) }

pub returns : goal.returns
returns c =
    let A = c.args in
    next-some A.t.now A.p A.i (omega (arith, c.type_inv.t (A.p + A.i / 32)))
    (omega (arith, c.if-w-eq0.false))
