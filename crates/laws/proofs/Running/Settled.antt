-- What conversion numbers is what rounds settle, cyclic or not.
use Prim.Native.Nat.{ℕ, zero, suc, ◌+◌, ◌-◌}
use mathlib.Core.Path.{◌≡◌, refl, sym, ap, ◌∙◌, subst}
use mathlib.Core.Bool.{Bool, true, false, ◌||◌, false≢true}
use mathlib.Core.List.{List, [], ◌∷◌, ◌++◌, append-nil}
use Rattle.std.specs.Prelude.{Some}
use native.Mathlib.Nat.{add-zero, add-suc}
use native.Mathlib.Omega.{arith}
use borrow.Author.Tests.{eqb-true}
use lib.Dec.{eqb}
use lib.ListN.{length}
use lib.Seq.{append_snoc}
use Rattle.plan.specs.Literals.{var_of}
use Rattle.plan.specs.Circuit.{Gate, Circuit, left_vars, rights, has, leaves}
use Rattle.plan.specs.Depends.{find, both, settled}
use Rattle.plan.specs.Convert.{sorted, numbered}
use Rattle.laws.proofs.Reading.Common.{and_left, and_right, and_intro}
use Rattle.laws.proofs.Reading.Members.{distinct}
use Rattle.laws.proofs.Reading.Cycles.{none_of}
use Rattle.laws.proofs.Running.Values.{settled-more, settled-none}
use Rattle.laws.proofs.Running.Lists.{has_left, distinct-right, distinct_apart, all_in}
use Rattle.laws.proofs.Running.Found.{AllG, sides-in, found-own}
use Rattle.laws.proofs.Running.Renumber.{Readied}
use Rattle.laws.proofs.Running.Numbering.{order-readied, order-all, order-length, order-closed, complete}

has-snoc-cases : (C : Type 0) (v x : ℕ) (p : List ℕ) → has v (p ++ (x ∷ [])) ≡ true → (has v p ≡ true → C) → (x ≡ v → C) → C
has-snoc-cases C v x [] h f g = go (eqb x v) refl h
  where
    go : (t : Bool) → eqb x v ≡ t → (t || false) ≡ true → C
    go true e q = g (eqb-true x v e)
    go false e q = absurd (false≢true q)
has-snoc-cases C v x (y ∷ p) h f g = go (eqb y v) h (λ q k. has-snoc-cases C v x p q k g) f
  where
    go : (t : Bool) → (t || has v (p ++ (x ∷ []))) ≡ true → (has v (p ++ (x ∷ [])) ≡ true → (has v p ≡ true → C) → C)
        → ((t || has v p) ≡ true → C) → C
    go true q ih k = k refl
    go false q ih k = ih q k

settled-in : (gs : List Gate) (j : ℕ) (p : List ℕ) (qs : List Gate) → Readied p qs → AllG (λ g. find (var_of g.lhs) gs ≡ Some g) qs
    → ((v : ℕ) → has v p ≡ true → settled gs j v ≡ true) → (v : ℕ) → has v (p ++ left_vars qs) ≡ true → settled gs (j + length qs) v ≡ true
settled-in gs j p [] r a h v k = rw (add-zero j) (h v (rw (append-nil p) at k))
settled-in gs j p (g ∷ qs) r a h v k =
    subst (λ (n : ℕ). settled gs n v ≡ true) (suc-swap j (length qs))
    (settled-in gs (suc j) (p ++ (var_of g.lhs ∷ [])) qs r.1 a.1 now v
    (subst (λ (o : List ℕ). has v o ≡ true) (sym (append_snoc p (var_of g.lhs) (left_vars qs))) k))
  where
    suc-swap : (m n : ℕ) → suc m + n ≡ m + suc n
    suc-swap m n = omega arith

    this : settled gs (suc j) (var_of g.lhs) ≡ true
    this =
        ap (both (λ u. settled gs j u)) a.0 ∙ and_intro (settled gs j (var_of g.rhs0)) (settled gs j (var_of g.rhs1))
        (h (var_of g.rhs0) (and_left (has (var_of g.rhs0) p) (has (var_of g.rhs1) p) r.0))
        (h (var_of g.rhs1) (and_right (has (var_of g.rhs0) p) (has (var_of g.rhs1) p) r.0))

    now : (u : ℕ) → has u (p ++ (var_of g.lhs ∷ [])) ≡ true → settled gs (suc j) u ≡ true
    now u q =
        has-snoc-cases (settled gs (suc j) u ≡ true) u (var_of g.lhs) p q (λ t. settled-more gs j u (h u t))
        (λ e. subst (λ (x : ℕ). settled gs (suc j) x ≡ true) e this)

settled-plus : (gs : List Gate) (j d v : ℕ) → settled gs j v ≡ true → settled gs (j + d) v ≡ true
settled-plus gs j zero v h = rw (add-zero j) h
settled-plus gs j (suc d) v h = rw (add-suc j d) (settled-more gs (j + d) v (settled-plus gs j d v h))

module _ (c : Circuit) (once : distinct (leaves c ++ left_vars c.gates) ≡ true) where
  pub numbered-settled : (v : ℕ) → has v (numbered c) ≡ true → settled c.gates (length c.gates) v ≡ true
  numbered-settled v h =
      let k = length c.gates in
      let q : 0 + length (sorted c) + (k - length (sorted c)) ≡ k = omega (arith, order-length k (leaves c) c.gates) in
      subst (λ (n : ℕ). settled c.gates n v ≡ true) q
      (settled-plus c.gates (0 + length (sorted c)) (k - length (sorted c)) v
      (settled-in c.gates 0 (leaves c) (sorted c) (order-readied k (leaves c) c.gates)
      (order-all (λ g. find (var_of g.lhs) c.gates ≡ Some g) k (leaves c) c.gates
      (found-own c.gates (distinct-right (leaves c) (left_vars c.gates) once)))
      (λ u t. settled-none c.gates 0 u (none_of u c.gates (distinct_apart u (leaves c) (left_vars c.gates) once t))) v h))

pub settled-numbered : (c : Circuit) → all_in (rights c.gates) (leaves c ++ left_vars c.gates) ≡ true → (v : ℕ)
    → has v (leaves c ++ left_vars c.gates) ≡ true
    → settled c.gates (length c.gates) v ≡ true → has v (numbered c) ≡ true
settled-numbered c used v h s =
    complete c.gates (leaves c) (numbered c) (λ u k. has_left u (leaves c) (left_vars (sorted c)) k)
    (order-closed (length c.gates) (leaves c) c.gates (omega arith))
    (sides-in (leaves c ++ left_vars c.gates) c.gates used) (length c.gates) v s h
