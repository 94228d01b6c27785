-- By whether three bytes are enough.
use native.Mathlib.Omega.{arith}
use Rattle.plan.specs.Difference.{groups_of}
use Rattle.laws.proofs.Reading.Differences.{groups-some}
use Rattle.write.proofs.print.Begun.{begun-put}
use Rattle.write.proofs.print.begin_difference.Goals as goal

pub put_three-requires : goal.put_three-requires
put_three-requires c =
    record { d_bound = c.if-d-lt2097152.true; at_in_bounds = omega (arith, c.requires, groups-some c.args.d) }

pub returns : goal.returns
returns c =
    let a = c.args in
    record { value = c.put_groups.ensures.value; begun = begun-put a.out.now a.at (groups_of a.d) _ _ c.put_groups.ensures.out_after c.put_groups.ensures.value }
