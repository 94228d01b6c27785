-- Marks beside values: one more, those of one gate, those of the walk.
use Prim.Native.Nat.{ℕ, suc, ◌+◌, ◌*◌, ◌≤◌, ◌<◌}
use mathlib.Core.Path.{◌≡◌, refl, sym, ap, ◌∙◌, subst}
use mathlib.Core.Bool.{Bool, true, false, cond, ◌||◌}
use mathlib.Core.List.{List, [], ◌∷◌, ◌++◌}
use native.Mathlib.Omega.{arith}
use borrow.Author.Tests.{eqb-true, eqb-false}
use lib.Dec.{eqb}
use lib.ListN.{length, get_or, set}
use lib.Seq.{get_or-set_same, get_or-set_other}
use Rattle.plan.specs.declared.Lit.{Lit}
use Rattle.plan.specs.Literals.{lit_of, var_of, neg_of, word_of}
use Rattle.plan.specs.Circuit.{Gate, has}
use Rattle.plan.specs.Step.{Value, v0, v1, vx, inv, lit, same}
use Rattle.laws.proofs.Tables.{gate_at, gates_at}
use Rattle.laws.proofs.Running.Signs.{lit-double, lit-neg}
use Rattle.step.specs.values.Words.{may0, may1, word}
use Rattle.step.proofs.sweep.NotAnd.{may-not}
use Rattle.plan.specs.Walk.{walk}
use Rattle.plan.specs.Explain.{blames_at, blames}
use Rattle.drop.proofs.Marking.{walk-append}
use Rattle.explain.specs.Known.{side_at, flag, Known}

pub mark-more : (w : ℕ → Value) (lits m n : ℕ) (seen t : List ℕ) (v : ℕ) → lits + 2 * n ≤ m → v < n → m + v < length t
    → Known w lits m n seen t → Known w lits m n (v ∷ seen) (set t (m + v) 2)
mark-more w lits m n seen t v apart lt h k = record {
  values = λ l q. get_or-set_other t (m + v) (lits + l) 2 0 (λ e. omega arith) ∙ k.values l q;
  marks = λ u q. go u q (eqb v u) refl;
}
  where
    go : (u : ℕ) → u < n → (b : Bool) → eqb v u ≡ b → get_or (set t (m + v) 2) (m + u) 0 ≡ word (flag (b || has u seen))
    go u q true e = subst (λ (x : ℕ). get_or (set t (m + v) 2) (m + x) 0 ≡ 2) (eqb-true v u e) (get_or-set_same t (m + v) 2 0 h)
    go u q false e = get_or-set_other t (m + v) (m + u) 2 0 (λ p. eqb-false v u e (omega arith)) ∙ k.marks u q

-- one of two literals
pub side-below : (lits : ℕ) (t : List ℕ) (a b : Lit) (n : ℕ) → var_of (word_of a) < n → var_of (word_of b) < n → var_of (word_of (side_at lits t a b)) < n
side-below lits t a b n ha hb = go (eqb (get_or t (lits + word_of a) 0) 0)
  where
    go : (r : Bool) → var_of (word_of (cond r a b)) < n
    go true = ha
    go false = hb

-- bits back to values
one : (a : Value) → may0 a ≡ 0 → a ≡ v1
one v0 e = absurd (omega arith)
one v1 e = refl
one vx e = absurd (omega arith)

zero-value : (a : Value) → may1 a ≡ 0 → a ≡ v0
zero-value v0 e = refl
zero-value v1 e = absurd (omega arith)
zero-value vx e = absurd (omega arith)

neither : (a : Value) → (may0 a ≡ 0 → ⊥) → (may1 a ≡ 0 → ⊥) → a ≡ vx
neither v0 e f = absurd (f refl)
neither v1 e f = absurd (e refl)
neither vx e f = refl

is0-bit : (a : Value) → may1 a ≡ 0 → same a v0 ≡ true
is0-bit a e = ap (λ (b : Value). same b v0) (zero-value a e)

is0-not : (a : Value) → (may1 a ≡ 0 → ⊥) → same a v0 ≡ false
is0-not v0 e = absurd (e refl)
is0-not v1 e = refl
is0-not vx e = refl

next-literal : (v : ℕ) → neg_of (lit_of v) ≡ 2 * v + 1
next-literal v = omega arith

module _ (w : ℕ → Value) (lits m n : ℕ) (g : Gate) (low : var_of g.lhs < n) (seen t : List ℕ) (k : Known w lits m n seen t) where
  -- the words of its own literal and of the negated one
  own : get_or t (lits + 2 * var_of g.lhs) 0 ≡ may1 (w (var_of g.lhs))
  own = k.values (2 * var_of g.lhs) (omega arith) ∙ ap may1 (lit-double w (var_of g.lhs))

  own-not : get_or t (lits + 2 * var_of g.lhs + 1) 0 ≡ may0 (w (var_of g.lhs))
  own-not =
      let v = var_of g.lhs in
      let at : lits + 2 * v + 1 ≡ lits + (2 * v + 1) = omega arith in
      ap (λ (q : ℕ). get_or t q 0) at ∙ k.values (2 * v + 1) (omega arith)
      ∙ ap (λ (l : ℕ). may1 (lit w l)) (sym (next-literal v))
      ∙ ap may1 (lit-neg w (lit_of v) ∙ ap inv (lit-double w v)) ∙ may-not (w v)

  -- a gate that is not come to
  pub not-come : get_or t (m + var_of g.lhs) 0 ≡ 1 → Known w lits m n (walk (blames w) (g ∷ []) seen) t
  not-come z =
      subst (λ (b : Bool). Known w lits m n (cond b (blames w g ++ seen) seen) t)
      (sym (out (has (var_of g.lhs) seen) (sym (k.marks (var_of g.lhs) low) ∙ z))) k
    where
      out : (b : Bool) → word (flag b) ≡ 1 → b ≡ false
      out true e = absurd (omega arith)
      out false e = refl

  module _ (nz : get_or t (m + var_of g.lhs) 0 ≡ 1 → ⊥) where
    come : has (var_of g.lhs) seen ≡ true
    come = out (has (var_of g.lhs) seen) (k.marks (var_of g.lhs) low)
      where
        out : (b : Bool) → get_or t (m + var_of g.lhs) 0 ≡ word (flag b) → b ≡ true
        out true e = refl
        out false e = absurd (nz e)

    blaming : (a : Value) → w (var_of g.lhs) ≡ a → (t' : List ℕ) → Known w lits m n (blames_at a w g ++ seen) t'
        → Known w lits m n (walk (blames w) (g ∷ []) seen) t'
    blaming a e t' q =
        subst (λ (b : Bool). Known w lits m n (cond b (blames w g ++ seen) seen) t') (sym come)
        (subst (λ (x : Value). Known w lits m n (blames_at x w g ++ seen) t') (sym e) q)

    pub at_1 : (t' : List ℕ) → get_or t (lits + 2 * var_of g.lhs + 1) 0 ≡ 0 → Known w lits m n (var_of g.rhs0 ∷ var_of g.rhs1 ∷ seen) t'
        → Known w lits m n (walk (blames w) (g ∷ []) seen) t'
    at_1 t' e q = blaming v1 (one (w (var_of g.lhs)) (sym own-not ∙ e)) t' q

    -- at x nothing is blamed
    pub at_x : (get_or t (lits + 2 * var_of g.lhs + 1) 0 ≡ 0 → ⊥) → (get_or t (lits + 2 * var_of g.lhs) 0 ≡ 0 → ⊥)
        → Known w lits m n (walk (blames w) (g ∷ []) seen) t
    at_x e f = blaming vx (neither (w (var_of g.lhs)) (λ q. e (own-not ∙ q)) (λ q. f (own ∙ q))) t k

    module _ (z : get_or t (lits + 2 * var_of g.lhs) 0 ≡ 0) (l0 : g.rhs0 < 2 * n) where
      at-0 : w (var_of g.lhs) ≡ v0
      at-0 = zero-value (w (var_of g.lhs)) (sym own ∙ z)

      -- the first right side that is 0
      pub side-0 : (a b : Lit) → word_of a ≡ g.rhs0 → word_of b ≡ g.rhs1 → (t' : List ℕ)
          → Known w lits m n (var_of (word_of (side_at lits t a b)) ∷ seen) t' → Known w lits m n (walk (blames w) (g ∷ []) seen) t'
      side-0 a b ea eb t' q =
          blaming v0 at-0 t' (subst (λ (v : ℕ). Known w lits m n (v ∷ seen) t') (go (eqb (get_or t (lits + word_of a) 0) 0) refl) q)
        where
          first : get_or t (lits + word_of a) 0 ≡ may1 (lit w g.rhs0)
          first = ap (λ (l : ℕ). get_or t (lits + l) 0) ea ∙ k.values g.rhs0 l0

          go : (r : Bool) → eqb (get_or t (lits + word_of a) 0) 0 ≡ r
              → var_of (word_of (cond r a b)) ≡ cond (same (lit w g.rhs0) v0) (var_of g.rhs0) (var_of g.rhs1)
          go true e =
              ap var_of ea ∙ ap (λ (x : Bool). cond x (var_of g.rhs0) (var_of g.rhs1))
              (sym (is0-bit (lit w g.rhs0) (sym first ∙ eqb-true _ 0 e)))
          go false e =
              ap var_of eb ∙ ap (λ (x : Bool). cond x (var_of g.rhs0) (var_of g.rhs1))
              (sym (is0-not (lit w g.rhs0) (λ f. eqb-false _ 0 e (first ∙ f))))

-- the loop: from gate k on the marks are those of the walk
abbrev pub Walking : List ℕ → ℕ → ℕ → ℕ → ℕ → List ℕ → List ℕ → ℕ → Type 0
Walking gates a lits m n t₀ t k = (w : ℕ → Value) (seen : List ℕ) → Known w lits m n seen t₀
    → (come : List ℕ) × Known w lits m n come t × (walk (blames w) (gates_at gates k) come ≡ walk (blames w) (gates_at gates a) seen)

pub walking-more : (gates : List ℕ) (a lits m n : ℕ) (t₀ t t' : List ℕ) (k j : ℕ) → k ≡ suc j → Walking gates a lits m n t₀ t k
    → ((w : ℕ → Value) (seen : List ℕ) → Known w lits m n seen t → Known w lits m n (walk (blames w) (gate_at gates j ∷ []) seen) t')
    → Walking gates a lits m n t₀ t' j
walking-more gates a lits m n t₀ t t' k j e q f w seen x =
    let s = q w seen x in (
      walk (blames w) (gate_at gates j ∷ []) s.0,
      f w s.0 s.1,
      sym (walk-append (blames w) (gates_at gates j) (gate_at gates j ∷ []) s.0)
          ∙ ap (λ (i : ℕ). walk (blames w) (gates_at gates i) s.0) (sym e) ∙ s.2,
    )
