-- By whether more words follow.
use Prim.Native.Nat.{◌-◌, suc}
use mathlib.Core.Path.{◌≡◌, ap}
use native.Mathlib.Omega.{arith}
use Rattle.plan.specs.Bytes.{end_of}
use Rattle.write.proofs.print.end_of.Goals as goal

pub returns : goal.returns
returns c =
    let j = c.args.left in
    let more : suc (j - 1) ≡ j = omega (arith, c.if-left-eq0.false) in
    ap end_of more
