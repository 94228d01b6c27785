-- What a literal became, where the table's words are what the variables became. The answer is that of the call below it.
use Prim.Native.Nat.{ℕ}
use mathlib.Core.Path.{◌≡◌, ap, ◌∙◌}
use native.Mathlib.Omega.{arith}
use lib.ListN.{get_or}
use Rattle.plan.specs.declared.Lit.{Lit}
use Rattle.plan.specs.Literals.{index_of, lit_at, word_of, var_of, signed_as}
use Rattle.reduce.proofs.folding.becomes.Goals as goal

pub bounds-became-v : goal.bounds-became-v
bounds-became-v c = omega (arith, c.index-v.ensures, ap index_of c.var.ensures, c.requires)

pub returns : goal.returns
returns c =
    let a = c.args in
    let at : c.index-v.result ≡ var_of (word_of a.l)
    = c.index-v.ensures ∙ ap index_of c.var.ensures in
    c.signed_as.ensures ∙ ap (λ (l : Lit). signed_as l a.l) c.at.ensures
    ∙ ap (λ (v : ℕ). signed_as (lit_at (get_or a.became.now v 0)) a.l) at
