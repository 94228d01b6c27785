-- The first right side that is 0, of a gate at 0. The answer is that of the call below it.
use mathlib.Core.Path.{sym, ap, ◌∙◌}
use mathlib.Core.Bool.{Bool, cond}
use borrow.Author.Tests.{eq-eqb, ne_eqb}
use lib.ListN.{get_or}
use Prim.Native.Nat.{ℕ, ◌+◌}
use Rattle.plan.specs.Literals.{word_of}
use Rattle.explain.proofs.zero_side.Goals as goal

pub returns-then-t-at-eq0 : goal.returns-then-t-at-eq0
returns-then-t-at-eq0 c =
    let a = c.args in
    sym (ap (λ (b : Bool). cond b a.rhs0 a.rhs1) (eq-eqb (get_or a.t.now (a.lits + word_of a.rhs0) 0) 0
    (ap (λ (l : ℕ). get_or a.t.now (a.lits + l) 0) (sym c.word.ensures) ∙ c.if-t-at-eq0.true)))

pub returns : goal.returns
returns c =
    let a = c.args in
    sym (ap (λ (b : Bool). cond b a.rhs0 a.rhs1) (ne_eqb (get_or a.t.now (a.lits + word_of a.rhs0) 0) 0
    (λ z. c.if-t-at-eq0.false (ap (λ (l : ℕ). get_or a.t.now (a.lits + l) 0) c.word.ensures ∙ z))))
