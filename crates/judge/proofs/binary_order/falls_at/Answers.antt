-- Whether a gate keeps lhs > rhs0 >= rhs1, so that both its differences can be written. The answer is that of the call below it.
use Prim.Native.Nat.{ℕ}
use mathlib.Core.Path.{◌≡◌, refl, sym, ap, ap₂, ◌∙◌}
use mathlib.Core.Bool.{Bool, true, false, not, ◌&&◌}
use borrow.Author.Tests.{not-true, not-false, ltb-true, ltb-false, lt-leb, le-leb}
use lib.Dec.{leb, ltb}
use Rattle.plan.specs.declared.Lit.{Lit}
use Rattle.plan.specs.Literals.{word_of}
use Rattle.judge.proofs.binary_order.falls_at.Goals as goal

not-below : (a b : ℕ) → not (ltb a b) ≡ leb b a
not-below a b = go (ltb a b) refl
  where
    go : (t : Bool) → ltb a b ≡ t → not t ≡ leb b a
    go true e = sym (lt-leb b a (ltb-true a b e))
    go false e = sym (le-leb b a (ltb-false a b e))

pub returns-then-not-below : goal.returns-then-not-below
returns-then-not-below c =
    let first-is : let a = c.args in c.below.result ≡ ltb a.rhs0 a.lhs =
    c.below.ensures
    ∙ ap₂ (λ (x y : Lit). ltb (word_of x) (word_of y)) c.at-larger.ensures c.at.ensures in
    let a = c.args in
    sym (ap (λ (b : Bool). b && leb a.rhs1 a.rhs0) (sym (first-is) ∙ not-true _ c.if-not-below.true-raw))

pub returns : goal.returns
returns c =
    let first-is : let a = c.args in c.below.result ≡ ltb a.rhs0 a.lhs =
    c.below.ensures
    ∙ ap₂ (λ (x y : Lit). ltb (word_of x) (word_of y)) c.at-larger.ensures c.at.ensures in
    let a = c.args in
    ap not (c.below-2.ensures
    ∙ ap₂ (λ (x y : Lit). ltb (word_of x) (word_of y)) c.at-larger.ensures c.at-2.ensures)
    ∙ not-below a.rhs0 a.rhs1
    ∙ sym (ap (λ (b : Bool). b && leb a.rhs1 a.rhs0) (sym (first-is) ∙ not-false _ c.if-not-below.false-raw))
