-- From the last gate to the first: in binary order a gate is marked, if at all, before it is come to.
use Prim.Native.Nat.{◌-◌}
use native.Mathlib.Omega.{arith}
use Rattle.drop.proofs.Marking.{walking-more}
use Rattle.drop.proofs.reach.Goals as goal

pub loop-k-preserved : goal.loop-k-preserved
loop-k-preserved c =
    walking-more _ _ _ _ _ c.loop-k.k (c.loop-k.k - 1) (omega arith) c.loop-k.invariant c.reach_from.auto.t c.reach_from.ensures
