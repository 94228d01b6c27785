-- The circuit without its unused gates: well formed, and every step of it is a step of the circuit.
use Prim.Native.Nat.{ℕ, zero, suc}
use mathlib.Core.Path.{◌≡◌, refl, sym, ap, ap₂, ◌∙◌, subst}
use mathlib.Core.Bool.{Bool, true, false, cond, false≢true}
use mathlib.Core.Logic.{◌↔◌}
use mathlib.Core.List.{List, [], ◌∷◌, ◌++◌, map, append_assoc}
use Rattle.std.specs.Prelude.{Option, Some, None}
use native.Mathlib.Omega.{arith}
use lib.ListN.{length}
use Rattle.plan.specs.Literals.{var_of, sign_of}
use Rattle.plan.specs.Circuit.{Gate, Circuit, vars, current_vars, left_vars, nexts, observed, roots, rights, defined_in, used_in, has, all_new, leaves}
use Rattle.plan.specs.Depends.{find}
use Rattle.plan.specs.Reading.{WellFormed}
use Rattle.plan.specs.Binary.{binary_order}
use Rattle.plan.specs.Step.{Value, and, signed_value, lit, gate_value, leaf_value, values_of, step_of}
use Rattle.laws.proofs.Reading.Members.{has-self, has-later, has-cases, distinct}
use Rattle.laws.proofs.Reading.Runs.{order-exactly}
use Rattle.laws.proofs.Running.Values.{Solves, unique, value-solves}
use Rattle.laws.proofs.Running.Lists.{has_left, has_right, has-but, new-distinct}
use Rattle.laws.proofs.Running.Found.{AllG, all_map}
use Rattle.laws.proofs.Running.Accepted.{leaves-lefts, accepted}
use Rattle.laws.proofs.Running.GateValue.{gates-found}
use Rattle.laws.proofs.Running.Binary.{Binary, inner}
use Rattle.laws.proofs.Running.InOrder.{order-binary}
use Rattle.plan.specs.Drop.{sides_of, Reached, reached, used}
use Rattle.laws.proofs.Walks.Walk.{Falls, from-walked, walk-closed, walk-exactly}
use Rattle.laws.proofs.Walks.Parts.{find-of, depends-of, length-of, inside_of, all_of, of-lefts, distinct_of, distinct-new}

-- in binary order right sides are below
pub sides-fall : (n : ℕ) (gs : List Gate) → Binary n gs → AllG (Falls sides_of) gs
sides-fall n [] b = tt
sides-fall n (g ∷ gs) b = (
  λ v h. has-cases _ (var_of g.rhs0) v (var_of g.rhs1 ∷ []) h (λ e. omega (arith, e, b.0, b.1))
      (λ p. has-cases _ (var_of g.rhs1) v [] p (λ e. omega (arith, e, b.0, b.2)) (λ q. absurd (false≢true q))),
  sides-fall (suc n) gs b.3,
)

vars-append : (xs ys : List ℕ) → vars (xs ++ ys) ≡ vars xs ++ vars ys
vars-append [] ys = refl
vars-append (x ∷ xs) ys = ap (λ (t : List ℕ). var_of x ∷ t) (vars-append xs ys)

-- where a right side stands among some gates, its gate is one of them
right_of : (P : ℕ → Type 0) (gs : List Gate) → AllG (λ g. P (var_of g.rhs0) × P (var_of g.rhs1)) gs → (v : ℕ)
    → has v (vars (rights gs)) ≡ true → P v
right_of P [] a v h = absurd (false≢true h)
right_of P (g ∷ gs) a v h =
    has-cases (P v) (var_of g.rhs0) v (var_of g.rhs1 ∷ vars (rights gs)) h (λ e. subst P e a.0.0)
    (λ k. has-cases (P v) (var_of g.rhs1) v (vars (rights gs)) k (λ e. subst P e a.0.1) (right_of P gs a.1 v))

-- a gate's right sides stand among those of its list
abbrev InRights : List Gate → Gate → Type 0
InRights gs g = (has (var_of g.rhs0) (vars (rights gs)) ≡ true) × (has (var_of g.rhs1) (vars (rights gs)) ≡ true)

in-more : (g : Gate) (gs : List Gate) (v : ℕ) → has v (vars (rights gs)) ≡ true → has v (vars (rights (g ∷ gs))) ≡ true
in-more g gs v h =
    has-later v (var_of g.rhs0) (var_of g.rhs1 ∷ vars (rights gs)) (has-later v (var_of g.rhs1) (vars (rights gs)) h)

own-rights : (gs : List Gate) → AllG (InRights gs) gs
own-rights [] = tt
own-rights (g ∷ gs) = (
  (
    has-self (var_of g.rhs0) (var_of g.rhs1 ∷ vars (rights gs)),
    has-later (var_of g.rhs1) (var_of g.rhs0) (var_of g.rhs1 ∷ vars (rights gs)) (has-self (var_of g.rhs1) (vars (rights gs))),
  ),
  all_map (InRights gs) (InRights (g ∷ gs)) (λ j x. (in-more g gs (var_of j.rhs0) x.0, in-more g gs (var_of j.rhs1) x.1)) gs
      (own-rights gs),
)

module _ (c : Circuit) (w : WellFormed c) (t : binary_order c ≡ true) where
  binary : Binary (inner c) c.gates
  binary = order-binary (inner c) c.gates ((order-exactly c).0 t).gates

  -- the list computed has exactly what is reached
  pub reached-exactly : (v : ℕ) → (has v (reached c) ≡ true) ↔ Reached c v
  reached-exactly =
      walk-exactly sides_of (vars (roots c)) (inner c) c.gates binary (sides-fall (inner c) c.gates binary) (gates-found c (accepted c w))

  -- what a reached gate uses is reached
  side-reached : (u v : ℕ) (g : Gate) → find u c.gates ≡ Some g → has v (sides_of g) ≡ true → has u (reached c) ≡ true
      → has v (reached c) ≡ true
  side-reached u v g = walk-closed sides_of (vars (roots c)) (inner c) c.gates binary (sides-fall (inner c) c.gates binary) u v g

  pub both-reached : (u : ℕ) (g : Gate) → find u c.gates ≡ Some g → has u (reached c) ≡ true
      → (has (var_of g.rhs0) (reached c) ≡ true) × (has (var_of g.rhs1) (reached c) ≡ true)
  both-reached u g e h = (
    side-reached u (var_of g.rhs0) g e (has-self (var_of g.rhs0) (var_of g.rhs1 ∷ [])) h,
    side-reached u (var_of g.rhs1) g e (has-later (var_of g.rhs1) (var_of g.rhs0) (var_of g.rhs1 ∷ []) (has-self (var_of g.rhs1) [])) h,
  )

  pub root-reached : (v : ℕ) → has v (vars (roots c)) ≡ true → has v (reached c) ≡ true
  root-reached v h = from-walked sides_of (vars (roots c)) c.gates v h

  sides-reached : AllG (λ g. (has (var_of g.rhs0) (reached c) ≡ true) × (has (var_of g.rhs1) (reached c) ≡ true)) (used c).gates
  sides-reached =
      all_of _ (reached c) c.gates
      (all_map (λ g. find (var_of g.lhs) c.gates ≡ Some g) _ (λ g e h. both-reached (var_of g.lhs) g e h) c.gates
      (gates-found c (accepted c w)))

  -- all that the circuit uses then is reached
  pub used-reached : (v : ℕ) → has v (used_in (used c)) ≡ true → has v (reached c) ≡ true
  used-reached v h = go (has v (vars (rights (used c).gates))) refl
    where
      go : (b : Bool) → has v (vars (rights (used c).gates)) ≡ b → has v (reached c) ≡ true
      go true p = right_of (λ u. has u (reached c) ≡ true) (used c).gates sides-reached v p
      go false p =
          root-reached v (has-but v (vars (roots c)) (vars (rights (used c).gates))
          (subst (λ (l : List ℕ). has v l ≡ true) (vars-append (roots c) (rights (used c).gates)) h) p)

  -- and was used before
  was-used : (v : ℕ) → has v (used_in (used c)) ≡ true → has v (used_in c) ≡ true
  was-used v h =
      subst (λ (l : List ℕ). has v l ≡ true) (sym (vars-append (roots c) (rights c.gates)))
      (go (has v (vars (rights (used c).gates))) refl)
    where
      go : (b : Bool) → has v (vars (rights (used c).gates)) ≡ b → has v (vars (roots c) ++ vars (rights c.gates)) ≡ true
      go true p =
          has_right v (vars (roots c)) (vars (rights c.gates))
          (right_of (λ u. has u (vars (rights c.gates)) ≡ true) (used c).gates (all_of (InRights c.gates) (reached c) c.gates
          (all_map (InRights c.gates) (λ g. has (var_of g.lhs) (reached c) ≡ true → InRights c.gates g) (λ g x _. x) c.gates
          (own-rights c.gates))) v p)
      go false p =
          has_left v (vars (roots c)) (vars (rights c.gates))
          (has-but v (vars (roots c)) (vars (rights (used c).gates))
          (subst (λ (l : List ℕ). has v l ≡ true) (vars-append (roots c) (rights (used c).gates)) h) p)

  still-defined : (v : ℕ) → has v (used_in (used c)) ≡ true → has v (zero ∷ defined_in (used c)) ≡ true
  still-defined v h =
      subst (λ (l : List ℕ). has v l ≡ true) (leaves-lefts (used c)) (go (has v (left_vars c.gates)) refl)
    where
      before : has v (leaves c ++ left_vars c.gates) ≡ true
      before = subst (λ (l : List ℕ). has v l ≡ true) (sym (leaves-lefts c)) (w.defined v (was-used v h))

      go : (b : Bool) → has v (left_vars c.gates) ≡ b → has v (leaves c ++ left_vars (used c).gates) ≡ true
      go true p = has_right v (leaves c) (left_vars (used c).gates) (of-lefts (reached c) c.gates v p (used-reached v h))
      go false p = has_left v (leaves c) (left_vars (used c).gates) (has-but v (leaves c) (left_vars c.gates) before p)

  still-different : (ins lats : List ℕ) → defined_in c ≡ ins ++ (lats ++ left_vars c.gates) → defined_in (used c) ≡ ins ++ (lats ++ left_vars (used c).gates)
      → all_new [] (defined_in (used c)) ≡ true
  still-different ins lats p q =
      distinct-new [] (defined_in (used c))
      (subst (λ (l : List ℕ). distinct l ≡ true) (append_assoc ins lats (left_vars (used c).gates) ∙ sym q)
      (distinct_of (ins ++ lats) (reached c) c.gates
      (subst (λ (l : List ℕ). distinct l ≡ true) (p ∙ sym (append_assoc ins lats (left_vars c.gates))) (new-distinct [] (defined_in c) w.different).0)))
      (λ v k. refl)

  pub used-well-formed : WellFormed (used c)
  used-well-formed = record {
    most-M = w.most-M;
    most-I = w.most-I;
    most-L = w.most-L;
    most-O = w.most-O;
    most-A = omega (arith, length-of (reached c) c.gates, w.most-A);
    most-B = w.most-B;
    most-C = w.most-C;
    sum = omega (arith, length-of (reached c) c.gates, w.sum);
    inputs = w.inputs;
    latches = w.latches;
    resets = w.resets;
    outputs = w.outputs;
    bads = w.bads;
    constraints = w.constraints;
    gates = inside_of (reached c) c.M c.gates w.gates;
    different = still-different (vars c.inputs) (current_vars c.latches) refl refl;
    defined = still-defined;
    acyclic = λ v d. w.acyclic v (depends-of (reached c) c.gates d);
  }

  -- values: what is reached has the value that it had
  module _ (s i : List Value) where
    before : ℕ → Value
    before = values_of c s i

    after : ℕ → Value
    after v = cond (has v (reached c)) (before v) (leaf_value c s i v)

    after-reached : (v : ℕ) → has v (reached c) ≡ true → after v ≡ before v
    unfolding after
    after-reached v h = ap (λ (b : Bool). cond b (before v) (leaf_value c s i v)) h

    same-gate-value : (v : ℕ) → has v (reached c) ≡ true → (o : Option Gate) → find v c.gates ≡ o
        → gate_value before (leaf_value c s i v) o ≡ gate_value after (leaf_value c s i v) o
    same-gate-value v h None e = refl
    same-gate-value v h (Some g) e =
        let sides = both-reached v g e h in
        ap₂ and (ap (signed_value (sign_of g.rhs0)) (sym (after-reached (var_of g.rhs0) sides.0)))
        (ap (signed_value (sign_of g.rhs1)) (sym (after-reached (var_of g.rhs1) sides.1)))

    after-solves : Solves (used c).gates (leaf_value c s i) after
    unfolding before after
    after-solves v = go (has v (reached c)) refl
      where
        go : (b : Bool) → has v (reached c) ≡ b → after v ≡ gate_value after (leaf_value c s i v) (find v (used c).gates)
        go true e =
            after-reached v e
            ∙ value-solves c.gates (leaf_value c s i) (length c.gates) (accepted c w).settles v
            ∙ same-gate-value v e (find v c.gates) refl
            ∙ ap (gate_value after (leaf_value c s i v)) (sym (find-of v (reached c) c.gates
            ∙ ap (λ (b : Bool). cond b (find v c.gates) None) e))
        go false e =
            unreached ∙ ap (gate_value after (leaf_value c s i v)) (sym (find-of v (reached c) c.gates
            ∙ ap (λ (b : Bool). cond b (find v c.gates) None) e))
          where
            unreached : after v ≡ leaf_value c s i v
            unreached = ap (λ (b : Bool). cond b (before v) (leaf_value c s i v)) e

    pub used-values : (v : ℕ) → has v (reached c) ≡ true → values_of (used c) s i v ≡ values_of c s i v
    unfolding before
    used-values v h =
        sym (unique (used c).gates (leaf_value c s i) after after-solves (length (used c).gates) v ((accepted (used c) used-well-formed).settles v))
        ∙ after-reached v h

    used-lits : (ls : List ℕ) → ((v : ℕ) → has v (vars ls) ≡ true → has v (reached c) ≡ true)
        → map (lit (values_of (used c) s i)) ls ≡ map (lit (values_of c s i)) ls
    used-lits [] h = refl
    used-lits (l ∷ ls) h =
        ap₂ (λ (x : Value) (t : List Value). x ∷ t)
        (ap (signed_value (sign_of l)) (used-values (var_of l) (h (var_of l) (has-self (var_of l) (vars ls)))))
        (used-lits ls (λ v k. h v (has-later v (var_of l) (vars ls) k)))

    -- each part of the roots is reached
    next-root : (v : ℕ) → has v (vars (nexts c.latches)) ≡ true → has v (reached c) ≡ true
    next-root v k =
        root-reached v (subst (λ (l : List ℕ). has v l ≡ true) (sym (vars-append (nexts c.latches) (observed c)))
        (has_left v (vars (nexts c.latches)) (vars (observed c)) k))

    seen-root : (v : ℕ) → has v (vars (observed c)) ≡ true → has v (reached c) ≡ true
    seen-root v k =
        root-reached v (subst (λ (l : List ℕ). has v l ≡ true) (sym (vars-append (nexts c.latches) (observed c)))
        (has_right v (vars (nexts c.latches)) (vars (observed c)) k))

    output-root : (v : ℕ) → has v (vars c.outputs) ≡ true → has v (reached c) ≡ true
    output-root v k =
        seen-root v (subst (λ (l : List ℕ). has v l ≡ true) (sym (vars-append c.outputs (c.bads ++ c.constraints)))
        (has_left v (vars c.outputs) (vars (c.bads ++ c.constraints)) k))

    asked-root : (v : ℕ) → has v (vars (c.bads ++ c.constraints)) ≡ true → has v (reached c) ≡ true
    asked-root v k =
        seen-root v (subst (λ (l : List ℕ). has v l ≡ true) (sym (vars-append c.outputs (c.bads ++ c.constraints)))
        (has_right v (vars c.outputs) (vars (c.bads ++ c.constraints)) k))

    bad-root : (v : ℕ) → has v (vars c.bads) ≡ true → has v (reached c) ≡ true
    bad-root v k =
        asked-root v (subst (λ (l : List ℕ). has v l ≡ true) (sym (vars-append c.bads c.constraints))
        (has_left v (vars c.bads) (vars c.constraints) k))

    constraint-root : (v : ℕ) → has v (vars c.constraints) ≡ true → has v (reached c) ≡ true
    constraint-root v k =
        asked-root v (subst (λ (l : List ℕ). has v l ≡ true) (sym (vars-append c.bads c.constraints))
        (has_right v (vars c.bads) (vars c.constraints) k))

    pub used_step : step_of (used c) s i ≡ step_of c s i
    used_step = λ j. record {
      state = s;
      inputs = i;
      outputs = used-lits c.outputs output-root j;
      bads = used-lits c.bads bad-root j;
      constraints = used-lits c.constraints constraint-root j;
      next = used-lits (nexts c.latches) next-root j;
    }
