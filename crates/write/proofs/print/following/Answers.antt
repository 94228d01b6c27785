-- By whether more words follow.
use Prim.Native.Nat.{◌-◌, suc}
use mathlib.Core.Path.{◌≡◌, ap}
use native.Mathlib.Omega.{arith}
use Rattle.write.specs.print.Words.{following}
use Rattle.write.proofs.print.following.Goals as goal

pub returns : goal.returns
returns c =
    let a = c.args in
    let more : suc (a.left - 1) ≡ a.left = omega (arith, c.if-left-eq0.false) in
    ap (following a.last) more
