-- A turn makes one latch below those that were made.
use native.Mathlib.Omega.{arith}
use Prim.Native.Nat.{◌+◌, ◌-◌}
use mathlib.Core.Path.{◌∙◌}
use Rattle.lines.proofs.gates.Words.{lit_is}
use Rattle.lines.proofs.gates.Spreading.{one-spread}
use Rattle.lines.proofs.gates.spread.Goals as goal

pub loop-i-preserved : goal.loop-i-preserved
loop-i-preserved c =
    let a = c.args in
    let v = a.first + (c.loop-i.i - 1) in
    let l = lit_is c.at.result c.lit.result v (omega arith) c.at.ensures c.lit.ensures in
    one-spread a.first a.n a.table.now c.requires.n_in_bounds c.loop-i.table c.loop-i.i c.loop-i.invariant (omega arith) c.loop-i-test.true _ (c.word.ensures ∙ l)
