-- From the last gate to the first: in binary order a gate is marked, if at all, before it is come to. The loop keeps `Walking`; `walking-more`
-- carries it from turn to turn.
use Prim.Native.Nat.{◌-◌}
use native.Mathlib.Omega.{arith}
use Rattle.explain.proofs.Blaming.{walking-more}
use Rattle.explain.proofs.blame.Goals as goal

pub loop-k-preserved : goal.loop-k-preserved
loop-k-preserved c =
    let a = c.args in
    walking-more a.gates.now a.a a.lits a.m a.n a.t.now c.loop-k.t _ c.loop-k.k (c.loop-k.k - 1) (omega (arith, c.loop-k-test.true))
    c.loop-k.invariant c.blame_from.ensures
