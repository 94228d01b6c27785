-- With room the groups stand in the buffer, without it the buffer is as it was.
use Rattle.plan.specs.Difference.{groups_of}
use Rattle.laws.proofs.Asked.{fits, refused, written}
use Rattle.codec.proofs.differences.write_difference.Goals as goal

pub returns-then-not-holds : goal.returns-then-not-holds
returns-then-not-holds c =
    let a = c.args in
    let count = c.groups_in-count in
    refused a.out.now a.at (groups_of a.d) count.result count.ensures c.holds.ensures c.if-not-holds.true-raw _
    c.needed.ensures

pub put_groups-requires : goal.put_groups-requires
put_groups-requires c =
    let a = c.args in
    let count = c.groups_in-count in
    fits a.out.now a.at (groups_of a.d) count.result count.ensures c.holds.ensures c.if-not-holds.false-raw

pub returns : goal.returns
returns c =
    let asked = c.before.before.before.before in
    let a = asked.args in
    let count = asked.groups_in-count in
    written a.out.now a.at (groups_of a.d) count.result count.ensures asked.holds.ensures asked.if-not-holds.false-raw _
    c.put_groups.ensures.out_after
