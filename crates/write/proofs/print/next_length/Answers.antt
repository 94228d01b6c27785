-- With a reset that is 0, and with another.
use mathlib.Core.Path.{refl}
use native.Mathlib.Omega.{arith}
use Rattle.write.proofs.print.Latches.{alone-count, both-count}
use Rattle.write.proofs.print.next_length.Goals as goal

pub overflow_add-first : goal.overflow_add-first
overflow_add-first c =
    let a = c.args in
    omega (arith, (alone-count a.next 0 _ (omega arith) refl c.digits_in-first.ensures).1)

pub returns-then-reset-eq0 : goal.returns-then-reset-eq0
returns-then-reset-eq0 c =
    let a = c.args in
    let whole = alone-count a.next a.reset _ (omega arith) c.if-reset-eq0.true c.digits_in-first.ensures in
    record { value = whole.0; upper_bound = whole.1 }

pub overflow_add-result : goal.overflow_add-result
overflow_add-result c =
    let a = c.args in
    let count = both-count a.next a.reset _ _ (omega arith) (omega arith) (omega (arith, c.if-reset-eq0.false))
    c.digits_in-first.ensures c.digits_in.ensures in
    omega (arith, count.1)

pub overflow_add-result-2 : goal.overflow_add-result-2
overflow_add-result-2 c =
    let a = c.args in
    let count = both-count a.next a.reset _ _ (omega arith) (omega arith) (omega (arith, c.if-reset-eq0.false))
    c.digits_in-first.ensures c.digits_in.ensures in
    omega (arith, count.1)

pub returns : goal.returns
returns c =
    let a = c.args in
    let whole = both-count a.next a.reset _ _ (omega arith) (omega arith) (omega (arith, c.if-reset-eq0.false))
    c.digits_in-first.ensures c.digits_in.ensures in
    record { value = whole.0; upper_bound = whole.1 }
