-- A turn adds one literal.
use native.Mathlib.Omega.{arith}
use Prim.Native.Nat.{◌+◌}
use mathlib.Core.Path.{◌∙◌}
use Rattle.lines.proofs.gates.Words.{lit_is}
use Rattle.lines.proofs.gates.RunOn.{one_written}
use Rattle.lines.proofs.gates.run_on.Goals as goal

pub loop-i-preserved : goal.loop-i-preserved
loop-i-preserved c =
    let a = c.args in
    let v = a.first + c.loop-i.i in
    let l = lit_is c.at.result c.lit.result v (omega arith) c.at.ensures c.lit.ensures in
    one_written a.first a.n a.table.now c.loop-i.table c.loop-i.i c.loop-i.invariant (omega arith) c.loop-i-test.true _ (c.word.ensures ∙ l)
