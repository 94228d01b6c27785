-- The code of a literal. The answer is that of the call below it.
use Prim.Native.Nat.{ℕ}
use mathlib.Core.Path.{◌≡◌, ap, ◌∙◌}
use native.Mathlib.Omega.{arith}
use lib.ListN.{get_or}
use Rattle.plan.specs.Literals.{var_of, word_of, index_of}
use Rattle.plan.specs.Step.{code_of, signed_value}
use Rattle.rewire.proofs.code_at.Goals as goal

pub bounds-values-v : goal.bounds-values-v
bounds-values-v c = omega (arith, c.index-v.ensures, ap index_of c.var.ensures, c.requires)

pub returns : goal.returns
returns c =
    λ a h.
    let s = c.args in
    let sign = c.sign-sign.ensures in
    let at : c.index-v.result ≡ var_of (word_of s.l) = c.index-v.ensures ∙ ap index_of c.var.ensures in
    c.signed_code.ensures a (omega (arith, sign)) (ap (λ (v : ℕ). get_or s.values.now v 0) at ∙ h)
    ∙ ap (λ (k : ℕ). code_of (signed_value k a)) sign
