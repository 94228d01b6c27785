-- The first difference, then the second.
use Rattle.write.proofs.print.Begun.{first-begins, second-begins, begun-end, begun-sides}
use Rattle.write.proofs.print.begin_gate.Goals as goal

pub begin_difference-middle-requires : goal.begin_difference-middle-requires
begin_difference-middle-requires c =
    let a = c.args in
    first-begins a.out.now a.at a.lhs a.rhs0 a.rhs1 c.requires c.above.result c.above.ensures

pub begin_difference-requires : goal.begin_difference-requires
begin_difference-requires c =
    let a = c.args in
    second-begins a.out.now a.at a.lhs a.rhs0 a.rhs1 c.requires c.above.result c.above-2.result c.above.ensures c.above-2.ensures c.begin_difference-middle.new.out
    c.begin_difference-middle.result c.begin_difference-middle.auto.out c.begin_difference-middle.ensures.value

pub returns : goal.returns
returns c =
    let a = c.args in
    record {
      value = begun-end a.out.now a.at a.lhs a.rhs0 a.rhs1 c.requires c.above.result c.above-2.result c.above.ensures c.above-2.ensures c.begin_difference-middle.new.out
          c.begin_difference-middle.result c.begin_difference-middle.auto.out c.begin_difference-middle.ensures.value c.begin_difference.new.out c.begin_difference.result c.begin_difference.ensures.value;
      begun = begun-sides a.out.now a.at a.lhs a.rhs0 a.rhs1 c.requires c.above.result c.above-2.result c.above.ensures c.above-2.ensures c.begin_difference-middle.new.out
          c.begin_difference-middle.result c.begin_difference-middle.auto.out c.begin_difference-middle.ensures.value c.begin_difference.new.out c.begin_difference.result c.begin_difference.ensures.value
          c.begin_difference-middle.ensures.begun c.begin_difference.ensures.begun;
    }
