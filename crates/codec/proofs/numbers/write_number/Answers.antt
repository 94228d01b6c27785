-- With room the digits stand in the buffer, without it the buffer is as it was.
use Rattle.plan.specs.Bytes.{digits}
use Rattle.laws.proofs.Asked.{fits, refused, written}
use Rattle.codec.proofs.numbers.write_number.Goals as goal

pub returns-then-not-holds : goal.returns-then-not-holds
returns-then-not-holds c =
    let a = c.args in
    let count = c.digits_in-count in
    refused a.out.now a.at (digits a.n) count.result count.ensures c.holds.ensures c.if-not-holds.true-raw _
    c.needed.ensures

pub put_digits-requires : goal.put_digits-requires
put_digits-requires c =
    let a = c.args in
    let count = c.digits_in-count in
    fits a.out.now a.at (digits a.n) count.result count.ensures c.holds.ensures c.if-not-holds.false-raw

pub returns : goal.returns
returns c =
    let asked = c.before.before.before.before in
    let a = asked.args in
    let count = asked.digits_in-count in
    written a.out.now a.at (digits a.n) count.result count.ensures asked.holds.ensures asked.if-not-holds.false-raw _
    c.put_digits.ensures.out_after
