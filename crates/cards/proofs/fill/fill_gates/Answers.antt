-- A turn adds one gate.
use Prim.Native.Nat.{◌+◌}
use mathlib.Core.Path.{◌∙◌}
use native.Mathlib.Omega.{arith}
use Rattle.lines.proofs.gates.Words.{lit_is}
use Rattle.cards.proofs.fill.Filling.{one-gated}
use Rattle.cards.proofs.fill.fill_gates.Goals as goal

pub loop-i-preserved : goal.loop-i-preserved
loop-i-preserved c =
    let a = c.args in
    let l = lit_is c.at.result c.lit.result (a.first + c.loop-i.i) (omega arith) c.at.ensures c.lit.ensures in
    one-gated a.file.now a.at a.n a.first a.table.now c.loop-i.table c.loop-i.i c.loop-i.invariant c.requires.n_in_bounds_2
    c.loop-i-test.true _ _ _
    (c.word.ensures ∙ l) c.word_at.ensures c.word_at-in-loop-i.ensures
