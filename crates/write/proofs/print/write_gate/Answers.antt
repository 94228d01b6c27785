-- The first difference, then the second.
use Rattle.write.proofs.print.Gates.{first_fits, second_fits, sides-end, sides-put}
use Rattle.write.proofs.print.write_gate.Goals as goal

pub put_groups-middle-requires : goal.put_groups-middle-requires
put_groups-middle-requires c =
    let a = c.args in
    first_fits a.out.now a.at a.lhs a.rhs0 a.rhs1 c.requires c.above.result c.above.ensures

pub put_groups-requires : goal.put_groups-requires
put_groups-requires c =
    let a = c.args in
    second_fits a.out.now a.at a.lhs a.rhs0 a.rhs1 c.requires c.above.result c.above.ensures c.put_groups-middle.new.out c.put_groups-middle.result
    c.put_groups-middle.ensures.value c.put_groups-middle.ensures.out_after c.above-2.result c.above-2.ensures

pub returns : goal.returns
returns c =
    let a = c.args in
    record {
      value = sides-end a.out.now a.at a.lhs a.rhs0 a.rhs1 c.requires c.above.result c.above.ensures c.put_groups-middle.new.out c.put_groups-middle.result
          c.put_groups-middle.ensures.value c.put_groups-middle.ensures.out_after c.above-2.result c.above-2.ensures _ c.put_groups.ensures.value;
      out_after = sides-put a.out.now a.at a.lhs a.rhs0 a.rhs1 c.requires c.above.result c.above.ensures c.put_groups-middle.new.out c.put_groups-middle.result
          c.put_groups-middle.ensures.value c.put_groups-middle.ensures.out_after c.above-2.result c.above-2.ensures _ c.put_groups.ensures.out_after;
    }
