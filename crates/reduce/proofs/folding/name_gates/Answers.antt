-- Each turn stores one left side.
use Prim.Native.Nat.{ℕ, ◌*◌}
use mathlib.Core.Path.{ap₂, ◌∙◌}
use mathlib.Core.List.{List}
use native.Mathlib.Omega.{arith}
use lib.ListN.{set}
use Rattle.reduce.proofs.folding.Loop.{name-more}
use Rattle.reduce.proofs.folding.name_gates.Goals as goal

pub loop-i-preserved : goal.loop-i-preserved
loop-i-preserved c =
    let a = c.args in
    ap₂ (λ (t : List ℕ) (x : ℕ). set t (3 * c.loop-i.i) x) c.loop-i.invariant (c.word.ensures ∙ c.left_side.ensures)
    ∙ name-more a.base a.to.now c.loop-i.i (omega (arith, c.requires.0, c.loop-i-test.true))
