-- Marks a literal's variable. Each answer is given by `mark-one`.
use Prim.Native.Nat.{ℕ}
use mathlib.Core.Path.{◌≡◌, sym, ap, ◌∙◌, subst}
use mathlib.Core.List.{◌∷◌}
use native.Mathlib.Omega.{arith}
use lib.ListN.{set}
use Rattle.plan.specs.Literals.{var_of, word_of, index_of}
use Rattle.drop.specs.Marks.{Marked}
use Rattle.drop.proofs.Marking.{mark-one}
use Rattle.drop.proofs.mark.Goals as goal

pub bounds-t-v : goal.bounds-t-v
bounds-t-v c = omega (arith, c.index-v.ensures, ap index_of c.var.ensures, c.requires)

pub returns : goal.returns
returns c =
    λ seen m.
    let a = c.args in
    let at : c.index-v.result ≡ var_of (word_of a.l) = c.index-v.ensures ∙ ap index_of c.var.ensures in
    subst (λ (v : ℕ). Marked (var_of (word_of a.l) ∷ seen) (set a.t.now v 1)) (sym at)
    (mark-one seen a.t.now (var_of (word_of a.l)) c.requires m)
