-- Marks a literal's variable, where the marks stand from m on. Each answer is given by `mark-more`.
use Prim.Native.Nat.{ℕ, ◌+◌}
use mathlib.Core.Path.{◌≡◌, sym, ap, ◌∙◌, subst}
use mathlib.Core.List.{◌∷◌}
use native.Mathlib.Omega.{arith}
use lib.ListN.{set}
use Rattle.plan.specs.Literals.{var_of, word_of, index_of}
use Rattle.explain.specs.Known.{Known}
use Rattle.explain.proofs.Blaming.{mark-more}
use Rattle.explain.proofs.mark.Goals as goal

pub bounds-t-m : goal.bounds-t-m
bounds-t-m c = omega (arith, c.index-v.ensures, ap index_of c.var.ensures, c.requires)

pub returns : goal.returns
returns c =
    λ w lits n seen apart low k.
    let a = c.args in
    let at : c.index-v.result ≡ var_of (word_of a.l) = c.index-v.ensures ∙ ap index_of c.var.ensures in
    subst (λ (v : ℕ). Known w lits a.m n (var_of (word_of a.l) ∷ seen) (set a.t.now (a.m + v) 2)) (sym at)
    (mark-more w lits a.m n seen a.t.now (var_of (word_of a.l)) apart low c.requires k)
