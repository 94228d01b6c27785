-- A gate that is reached reaches both right sides. The answers are given by `gate_at`, `not-reached` and `both-reached`.
use Prim.Native.Nat.{ℕ}
use mathlib.Core.Path.{◌≡◌, sym, ap, ◌∙◌, subst}
use mathlib.Core.List.{◌∷◌}
use native.Mathlib.Omega.{arith}
use lib.ListN.{get_or}
use Rattle.plan.specs.declared.Lit.{Lit}
use Rattle.plan.specs.Literals.{var_of, word_of, index_of}
use Rattle.laws.proofs.Tables.{gate_at}
use Rattle.drop.specs.Marks.{Marked}
use Rattle.drop.proofs.Marking.{not-reached, both-reached}
use Rattle.drop.proofs.reach_from.Goals as goal

pub bounds-t-v : goal.bounds-t-v
bounds-t-v c =
    let word = ap (λ (l : Lit). var_of (word_of l)) c.at.ensures in
    omega (arith, c.index-v.ensures, ap index_of c.var.ensures, word, c.requires.below.lhs)

pub returns-then-t-v-eq0 : goal.returns-then-t-v-eq0
returns-then-t-v-eq0 c =
    λ seen m.
    let a = c.args in
    let at : c.index-v.result ≡ var_of (gate_at a.gates.now a.k).lhs
    = c.index-v.ensures ∙ ap index_of c.var.ensures ∙ ap (λ (l : Lit). var_of (word_of l)) c.at.ensures in
    not-reached (gate_at a.gates.now a.k) seen a.t.now m (ap (λ (v : ℕ). get_or a.t.now v 0) (sym at) ∙ c.if-t-v-eq0.true)

pub mark-requires : goal.mark-requires
mark-requires c = omega (arith, ap (λ (l : Lit). var_of (word_of l)) c.at-2.ensures, c.requires.below.rhs1)

pub mark-requires-2 : goal.mark-requires-2
mark-requires-2 c =
    omega (arith, ap (λ (l : Lit). var_of (word_of l)) c.at-3.ensures, c.requires.below.rhs0, c.mark.auto.t)

pub returns : goal.returns
returns c =
    λ seen m.
    let a = c.args in
    let g = gate_at a.gates.now a.k in
    let at : c.index-v.result ≡ var_of g.lhs
    = c.index-v.ensures ∙ ap index_of c.var.ensures ∙ ap (λ (l : Lit). var_of (word_of l)) c.at.ensures in
    let r1 = ap (λ (l : Lit). var_of (word_of l)) c.at-2.ensures in
    let r0 = ap (λ (l : Lit). var_of (word_of l)) c.at-3.ensures in
    both-reached g seen a.t.now c.mark-2.new.t m
    (λ z. c.if-t-v-eq0.false (ap (λ (v : ℕ). get_or a.t.now v 0) at ∙ z))
    (subst (λ (v : ℕ). Marked (v ∷ var_of g.rhs1 ∷ seen) c.mark-2.new.t) r0
    (c.mark-2.ensures (var_of g.rhs1 ∷ seen)
    (subst (λ (v : ℕ). Marked (v ∷ seen) c.mark.new.t) r1
    (c.mark.ensures seen m))))
