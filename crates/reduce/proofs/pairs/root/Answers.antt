-- Which of the 2 × w roots is the pair's. The answers are given by `root-under` and `root_over`.
use Prim.Native.Nat.{◌+◌}
use mathlib.Core.Path.{◌≡◌, ap₂}
use native.Mathlib.Omega.{arith}
use Rattle.plan.specs.Literals.{word_of}
use Rattle.reduce.specs.pairs.Pairs.{spread_of}
use Rattle.reduce.proofs.pairs.Roots.{spread-low, root-under, root_over}
use Rattle.reduce.proofs.pairs.root.Goals as goal

pub overflow_add-v : goal.overflow_add-v
overflow_add-v c =
    let sum : let a = c.args in c.word.result + c.spread.result ≡ word_of a.x + spread_of a.w (word_of a.y) =
    ap₂ ◌+◌ c.word.ensures c.spread.ensures in
    let a = c.args in
    record { fits = omega (arith, sum, c.requires, spread-low a.w (word_of a.y) (omega (arith, c.requires.0))) }

pub returns-then-v-w : goal.returns-then-v-w
returns-then-v-w c =
    let sum : let a = c.args in c.word.result + c.spread.result ≡ word_of a.x + spread_of a.w (word_of a.y) =
    ap₂ ◌+◌ c.word.ensures c.spread.ensures in
    let a = c.args in
    root-under a.w (word_of a.x) (word_of a.y) _ (sum) (omega (arith, c.if-v-w.true))

pub returns-else-v-w : goal.returns-else-v-w
returns-else-v-w c =
    let sum : let a = c.args in c.word.result + c.spread.result ≡ word_of a.x + spread_of a.w (word_of a.y) =
    ap₂ ◌+◌ c.word.ensures c.spread.ensures in
    let a = c.args in
    root_over a.w (word_of a.x) (word_of a.y) _ c.requires.0 (sum) (omega (arith, c.if-v-w.false))
