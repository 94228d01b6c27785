-- Each turn stores one variable.
use Prim.Native.Nat.{ℕ}
use mathlib.Core.Path.{◌≡◌, ap, ap₂, ◌∙◌}
use mathlib.Core.List.{List}
use native.Mathlib.Omega.{arith}
use lib.ListN.{set}
use Rattle.plan.specs.Literals.{lit_of, word_of, doubled}
use Rattle.reduce.proofs.folding.Loop.{begin-more}
use Rattle.reduce.proofs.pairs.Roots.{whole}
use Rattle.reduce.proofs.folding.begin.Goals as goal

pub loop-v-preserved : goal.loop-v-preserved
loop-v-preserved c =
    let word : c.word.result ≡ lit_of c.loop-v.v
    = c.word.ensures ∙ ap word_of (c.lit.ensures ∙ ap doubled c.at.ensures) ∙ whole c.loop-v.v (omega arith) in
    ap₂ (λ (t : List ℕ) (x : ℕ). set t c.loop-v.v x) c.loop-v.invariant word ∙ begin-more c.args.scratch.now c.loop-v.v (omega arith)
