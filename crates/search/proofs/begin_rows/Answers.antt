use Prim.Native.Nat.{◌+◌, ◌*◌, ◌≤◌}
use native.Mathlib.Omega.{arith}
use lib.ListN.{length}
use Rattle.search.proofs.Beginning.{start-marked, started-more}
use Rattle.search.proofs.begin_rows.Goals as goal

pub raise-requires : goal.raise-requires
raise-requires c =
    omega (
      arith,
      start-marked c.args.split c.args.n c.args.resets.now c.requires.numbers.resets-long c.loop-k.k _ c.loop-k.marks c.start_number-s.ensures
          (omega (arith, c.requires.marks-long, c.loop-k.auto.marks)),
    )

pub loop-k-preserved : goal.loop-k-preserved
loop-k-preserved c =
    let l = c.loop-k in
    let room : 3 * l.k + 3 ≤ length l.met = omega (arith, c.requires.few, c.requires.met-long, l.auto.met) in
    started-more c.args.split c.args.n c.args.resets.now l.k _ l.met l.marks l.invariant c.start_number-s.ensures room _ c.raise.ensures
    (start-marked c.args.split c.args.n c.args.resets.now c.requires.numbers.resets-long l.k _ l.marks c.start_number-s.ensures
    (omega (arith, c.requires.marks-long, l.auto.marks)))
