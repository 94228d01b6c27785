-- A tree grows by one gate.
use mathlib.Core.Path.{◌≡◌, refl, sym, ap, ap₂, ◌∙◌, subst}
use mathlib.Core.Bool.{Bool, true, false, ◌&&◌, cond}
use Prim.Native.Nat.{ℕ, zero, suc, ◌+◌, ◌-◌, ◌*◌, ◌<◌, ◌≤◌}
use native.Mathlib.Omega.{arith}
use native.Mathlib.Nat.{not-suc-le-zero}
use borrow.Author.Tests.{eqb-true, eqb-false, le-leb}
use lib.Dec.{eqb, leb}
use Rattle.reduce.specs.pairs.Tree.{agree, depth, on, or_first, first_on, node, symbol, slot_of, Good, Grown}
use Rattle.reduce.proofs.pairs.Agree.{Agree, agreeing, agreed}
use Rattle.reduce.proofs.pairs.Depth.{still, first-none}
use Rattle.reduce.proofs.pairs.Slots.{same-slot, other-slot, symbol-bit, slot-inj}

module _ (S : ℕ → ℕ → ℕ) where
  -- gate n takes the word at which the search along its path ended
  module _ (w n k : ℕ) (ct ct' : ℕ → ℕ) (p : ℕ → ℕ) (few : n ≤ w) (grown : Grown S w n ct) (gp : Good w p) (hk : k ≤ n)
      (np : node S p k ≡ true)
      (ends : first_on S p k n ≡ 0) (is : (e : ℕ) → S n e ≡ p e) (at : ct' (slot_of w k (symbol S p k)) ≡ suc n)
      (new : (c : ℕ) → c < 2 → ct' (slot_of w (suc n) c) ≡ 0)
      (old : (s : ℕ) → (s ≡ slot_of w k (symbol S p k) → ⊥) → ct' s ≡ ct s) where
    module _ (q : ℕ → ℕ) (g : Good w q) (j : ℕ) (nq : node S q j ≡ true) (le : j ≤ n) where
      value : ct (slot_of w j (symbol S q j)) ≡ first_on S q j n
      value = grown q g j le nq

      kept_word : (slot_of w j (symbol S q j) ≡ slot_of w k (symbol S p k) → ⊥) → ct' (slot_of w j (symbol S q j)) ≡ first_on S q j n
      kept_word d = old (slot_of w j (symbol S q j)) d ∙ value

      turn : (b : Bool) → on S q n ≡ b → first_on S q j n ≡ 0 → (slot_of w j (symbol S q j) ≡ slot_of w k (symbol S p k) → ⊥)
          → on S q n ≡ false
      turn false e z d = e
      turn true e z d = absurd (d (ap₂ (slot_of w) o.0 (o.1 ∙ ap (symbol S p) o.0)))
        where
          o : (j ≡ k) × (symbol S q j ≡ symbol S p j)
          o = other-slot S q p j k n (λ i l. agreeing (depth S q n) q (S n) e i l ∙ is i) (still S q j n le z) nq (still S p k n hk ends) np

      zeros : (c : Bool) → eqb (slot_of w j (symbol S q j)) (slot_of w k (symbol S p k)) ≡ c → first_on S q j n ≡ 0
          → ct' (slot_of w j (symbol S q j)) ≡ cond (leb j n && on S q n) (suc n) 0
      zeros true c z = ap ct' same ∙ at ∙ sym (ap₂ (λ (a b : Bool). cond (a && b) (suc n) 0) (le-leb j n le) stands)
        where
          same : slot_of w j (symbol S q j) ≡ slot_of w k (symbol S p k)
          same = eqb-true (slot_of w j (symbol S q j)) (slot_of w k (symbol S p k)) c

          i : (j ≡ k) × (symbol S q j ≡ symbol S p k)
          i = slot-inj S w q p j k g gp (omega arith) (omega arith) nq np same

          a : Agree (depth S q j) q p
          a = same-slot S q p j nq (subst (λ (v : ℕ). node S p v ≡ true) (sym i.0) np) (i.1 ∙ ap (symbol S p) (sym i.0))

          stands : on S q n ≡ true
          stands = agreed (depth S q n) q (S n) (λ e l. a e (omega (arith, l, still S q j n le z)) ∙ sym (is e))
      zeros false c z =
          kept_word d ∙ z ∙ sym (ap (λ (b : Bool). cond (leb j n && b) (suc n) 0) (turn (on S q n) refl z d) ∙ off (leb j n))
        where
          d : slot_of w j (symbol S q j) ≡ slot_of w k (symbol S p k) → ⊥
          d = eqb-false (slot_of w j (symbol S q j)) (slot_of w k (symbol S p k)) c

          off : (a : Bool) → cond (a && false) (suc n) 0 ≡ 0
          off true = refl
          off false = refl

      word : (f : ℕ) → first_on S q j n ≡ f → ct' (slot_of w j (symbol S q j)) ≡ or_first f (cond (leb j n && on S q n) (suc n) 0)
      word zero e = zeros (eqb (slot_of w j (symbol S q j)) (slot_of w k (symbol S p k))) refl e
      word (suc f) e = kept_word (λ d. absurd (clash d)) ∙ e
        where
          clash : slot_of w j (symbol S q j) ≡ slot_of w k (symbol S p k) → ⊥
          clash d = let z : suc f ≡ 0 = sym e ∙ sym value ∙ ap ct d ∙ grown p gp k hk np ∙ ends in omega arith

    pub inserted : Grown S w (suc n) ct'
    inserted q g j hj nq = top (eqb j (suc n)) refl
      where
        top : (b : Bool) → eqb j (suc n) ≡ b → ct' (slot_of w j (symbol S q j)) ≡ first_on S q j (suc n)
        top true e =
            let is-n : suc n ≡ j = sym (eqb-true j (suc n) e) in
            subst (λ (v : ℕ). node S q v ≡ true → ct' (slot_of w v (symbol S q v)) ≡ first_on S q v (suc n)) is-n
            (λ nd. new (symbol S q (suc n)) (symbol-bit S w q n g nd) ∙ sym (first-none S q (suc n) (suc n) (omega arith))) nq
        top false e = word q g j nq (omega (arith, eqb-false j (suc n) e)) (first_on S q j n) refl

-- paths of the first n gates alone matter
module _ (S S' : ℕ → ℕ → ℕ) (n : ℕ) (alike : (i : ℕ) → i < n → S' i ≡ S i) where
  depth-ext : (q : ℕ → ℕ) (k : ℕ) → k ≤ n → depth S' q k ≡ depth S q k
  depth-ext q zero h = refl
  depth-ext q (suc k) h = ap₂ (λ (d : ℕ) (s : ℕ → ℕ). cond (agree d q s) (suc d) d) (depth-ext q k (omega arith)) (alike k h)

  on-ext : (q : ℕ → ℕ) (i : ℕ) → i < n → on S' q i ≡ on S q i
  on-ext q i h = ap₂ (λ (d : ℕ) (s : ℕ → ℕ). agree d q s) (depth-ext q i (omega arith)) (alike i h)

  first-ext : (q : ℕ → ℕ) (k j : ℕ) → j ≤ n → first_on S' q k j ≡ first_on S q k j
  first-ext q k zero h = refl
  first-ext q k (suc j) h =
      ap₂ (λ (f : ℕ) (b : Bool). or_first f (cond (leb k j && b) (suc j) 0)) (first-ext q k j (omega arith)) (on-ext q j h)

  node-ext : (q : ℕ → ℕ) (k : ℕ) → k ≤ n → node S' q k ≡ node S q k
  node-ext q zero h = refl
  node-ext q (suc i) h = on-ext q i h

  pub grown-ext : (w : ℕ) (ct : ℕ → ℕ) → Grown S w n ct → Grown S' w n ct
  grown-ext w ct g q gd k h nd =
      ap (λ (d : ℕ). ct (slot_of w k (q (d - 1)))) (depth-ext q k h) ∙ g q gd k h (sym (node-ext q k h) ∙ nd)
      ∙ sym (first-ext q k n (omega arith))

  pub symbol-ext : (q : ℕ → ℕ) (k : ℕ) → k ≤ n → symbol S' q k ≡ symbol S q k
  symbol-ext q k h = ap (λ (d : ℕ). q (d - 1)) (depth-ext q k h)

  pub node-ext' : (q : ℕ → ℕ) (k : ℕ) → k ≤ n → node S q k ≡ true → node S' q k ≡ true
  node-ext' q k h nd = node-ext q k h ∙ nd

  pub first-ext' : (q : ℕ → ℕ) (k : ℕ) → first_on S' q k n ≡ first_on S q k n
  first-ext' q k = first-ext q k n (omega arith)

pub grown-none : (S : ℕ → ℕ → ℕ) (w : ℕ) (ct : ℕ → ℕ) → ((c : ℕ) → c < 2 * w → ct (w + c) ≡ 0) → Grown S w 0 ct
grown-none S w ct z q g zero h n = z (q 0) g.root
grown-none S w ct z q g (suc k) h n = absurd (not-suc-le-zero h)
