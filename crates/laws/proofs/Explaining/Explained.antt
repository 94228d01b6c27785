-- The marks: exactly those of the walk; only where 0 or 1 stood; and with all else turned to x the output keeps its value.
use Prim.Native.Nat.{ℕ, zero, suc}
use mathlib.Core.Path.{◌≡◌, refl, sym, ap, ap₂, ◌∙◌, subst}
use mathlib.Core.Bool.{Bool, true, false, cond, false≢true}
use mathlib.Core.Logic.{◌↔◌}
use mathlib.Core.List.{List, [], ◌∷◌, ◌++◌, map, map-append}
use Rattle.std.specs.Prelude.{Option, Some, None}
use native.Mathlib.Omega.{arith}
use borrow.Author.Tests.{eqb-true}
use lib.Dec.{eqb}
use lib.ListN.{length, get_or, take, drop, length-append, length-map}
use lib.Seq.{take_at, drop_at}
use Rattle.plan.specs.Literals.{var_of, sign_of}
use Rattle.plan.specs.Circuit.{Gate, Circuit, Latch, vars, current_vars, has, index}
use Rattle.plan.specs.Depends.{find, both, settled, is_none}
use Rattle.plan.specs.Reading.{WellFormed}
use Rattle.plan.specs.Binary.{binary_order}
use Rattle.plan.specs.Step.{Value, v0, v1, vx, and, signed_value, lit, gate_value, leaf_value, values_of, same}
use Rattle.laws.proofs.Reading.Common.{and_left, and_right}
use Rattle.laws.proofs.Reading.Members.{has-self, has-later, has-cases}
use Rattle.laws.proofs.Reading.Runs.{order-exactly}
use Rattle.laws.proofs.Running.Found.{AllG, FindSays, find-says, all_map}
use Rattle.laws.proofs.Running.Accepted.{accepted}
use Rattle.laws.proofs.Running.GateValue.{gates-found, values-solve}
use Rattle.laws.proofs.Running.Binary.{Binary, inner}
use Rattle.laws.proofs.Running.InOrder.{order-binary}
use Rattle.plan.specs.Walk.{start, onward}
use Rattle.plan.specs.Drop.{sides_of}
use Rattle.plan.specs.Explain.{blames_at, blames, Blamed, blamed, mark, marks_for, only, only_state, only_inputs}
use Rattle.laws.proofs.Walks.Walk.{Falls, from-walked, walk-closed, walk-exactly}
use Rattle.laws.proofs.Walks.Used.{sides-fall}

-- values
apart : (a b : ℕ) → a ≡ b → a ≡ suc b → ⊥
apart a b e f = omega arith

v1-not-x : v1 ≡ vx → ⊥
v1-not-x e = let z : ◌≡◌ {A = ℕ} 0 1 = cc in omega arith

v0-not-x : v0 ≡ vx → ⊥
v0-not-x e = let z : ◌≡◌ {A = ℕ} 0 1 = cc in omega arith

v0-not-1 : v0 ≡ v1 → ⊥
v0-not-1 e = let z : ◌≡◌ {A = ℕ} 0 1 = cc in omega arith

and-1 : (a b : Value) → and a b ≡ v1 → (a ≡ v1) × (b ≡ v1)
and-1 v0 v0 e = absurd (v0-not-1 e)
and-1 v0 v1 e = absurd (v0-not-1 e)
and-1 v0 vx e = absurd (v0-not-1 e)
and-1 v1 v0 e = absurd (v0-not-1 e)
and-1 v1 v1 e = (refl, refl)
and-1 v1 vx e = absurd (v1-not-x (sym e))
and-1 vx v0 e = absurd (v0-not-1 e)
and-1 vx v1 e = absurd (v1-not-x (sym e))
and-1 vx vx e = absurd (v1-not-x (sym e))

-- of an And that is 0 the first side is 0, or else the second
and_0 : (a b : Value) → and a b ≡ v0 → same a v0 ≡ false → b ≡ v0
and_0 v0 b e h = absurd (false≢true (sym h))
and_0 v1 v0 e h = refl
and_0 v1 v1 e h = absurd (v0-not-1 (sym e))
and_0 v1 vx e h = absurd (v0-not-x (sym e))
and_0 vx v0 e h = refl
and_0 vx v1 e h = absurd (v0-not-x (sym e))
and_0 vx vx e h = absurd (v0-not-x (sym e))

is0-0 : (a : Value) → same a v0 ≡ true → a ≡ v0
is0-0 v0 e = refl
is0-0 v1 e = absurd (false≢true e)
is0-0 vx e = absurd (false≢true e)

zero_left : (a b : Value) → a ≡ v0 → and a b ≡ v0
zero_left a b e = ap (λ (x : Value). and x b) e ∙ all b
  where
    all : (y : Value) → and v0 y ≡ v0
    all v0 = refl
    all v1 = refl
    all vx = refl

zero_right : (a b : Value) → b ≡ v0 → and a b ≡ v0
zero_right a b e = ap (and a) e ∙ all a
  where
    all : (y : Value) → and y v0 ≡ v0
    all v0 = refl
    all v1 = refl
    all vx = refl

x-lit : (w : ℕ → Value) (l : ℕ) → w (var_of l) ≡ vx → lit w l ≡ vx
x-lit w l e = ap (signed_value (sign_of l)) e ∙ go (sign_of l)
  where
    go : (s : ℕ) → signed_value s vx ≡ vx
    go zero = refl
    go (suc s) = refl

-- a gate blames right sides of its own
blames-sides : (w : ℕ → Value) (g : Gate) (v : ℕ) → has v (blames w g) ≡ true → has v (sides_of g) ≡ true
blames-sides w g v h = go (w (var_of g.lhs)) h
  where
    side : (t : Bool) → has v (cond t (var_of g.rhs0) (var_of g.rhs1) ∷ []) ≡ true → has v (sides_of g) ≡ true
    side true k =
        has-cases (has v (sides_of g) ≡ true) (var_of g.rhs0) v [] k
        (λ e. subst (λ (x : ℕ). has x (sides_of g) ≡ true) e (has-self (var_of g.rhs0) (var_of g.rhs1 ∷ []))) (λ f. absurd (false≢true f))
    side false k = has-later v (var_of g.rhs0) (var_of g.rhs1 ∷ []) k

    go : (a : Value) → has v (blames_at a w g) ≡ true → has v (sides_of g) ≡ true
    go v0 k = side (same (lit w g.rhs0) v0) k
    go v1 k = k
    go vx k = absurd (false≢true k)

-- one variable for each latch and input
pub length-currents : (ls : List Latch) → length (current_vars ls) ≡ length ls
length-currents [] = refl
length-currents (x ∷ ls) = ap suc (length-currents ls)

pub length-vars : (ls : List ℕ) → length (vars ls) ≡ length ls
length-vars [] = refl
length-vars (x ∷ ls) = ap suc (length-vars ls)

-- the values of places that are not turned to x
leaf-only : (vs us : List ℕ) (xs : List Value) → length us ≡ length xs → (v : ℕ) → has v vs ≡ true
    → get_or (only (map (mark vs) us) xs) (index v us) vx ≡ get_or xs (index v us) vx
leaf-only vs [] [] l v h = refl
leaf-only vs [] (a ∷ xs) l v h = absurd (omega arith)
leaf-only vs (u ∷ us) [] l v h = absurd (omega arith)
leaf-only vs (u ∷ us) (a ∷ xs) l v h = go (eqb u v) refl (leaf-only vs us xs (omega arith) v h)
  where
    go : (t : Bool) → eqb u v ≡ t → get_or (only (map (mark vs) us) xs) (index v us) vx ≡ get_or xs (index v us) vx
        → get_or (only (map (mark vs) (u ∷ us)) (a ∷ xs)) (cond t zero (suc (index v us))) vx ≡ get_or (a ∷ xs) (cond t zero (suc (index v us))) vx
    go true e ih = ap (λ (t : Bool). cond (eqb (cond t 49 48) 49) a vx) (ap (λ (x : ℕ). has x vs) (eqb-true u v e) ∙ h)
    go false e ih = ih

only-append : (ms ns : List ℕ) (xs bs : List Value) → length ms ≡ length xs → only ms xs ++ only ns bs ≡ only (ms ++ ns) (xs ++ bs)
only-append [] ns [] bs l = refl
only-append [] ns (a ∷ xs) bs l = absurd (omega arith)
only-append (m ∷ ms) ns [] bs l = absurd (omega arith)
only-append (m ∷ ms) ns (a ∷ xs) bs l = ap (λ (t : List Value). cond (eqb m 49) a vx ∷ t) (only-append ms ns xs bs (omega arith))

take-marks : (f : ℕ → ℕ) (us zs : List ℕ) (n : ℕ) → length us ≡ n → take n (map f (us ++ zs)) ≡ map f us
take-marks f us zs n e =
    ap (take n) (map-append f us zs) ∙ take_at (map f us) (map f zs) n (length-map us f ∙ e)

drop-marks : (f : ℕ → ℕ) (us zs : List ℕ) (n : ℕ) → length us ≡ n → drop n (map f (us ++ zs)) ≡ map f zs
drop-marks f us zs n e =
    ap (drop n) (map-append f us zs) ∙ drop_at (map f us) (map f zs) n (length-map us f ∙ e)

module _ (c : Circuit) (w : WellFormed c) (t : binary_order c ≡ true) (s i : List Value) (ls : length s ≡ length c.latches)
    (li : length i ≡ length c.inputs) (l : ℕ) (known : lit (values_of c s i) l ≡ vx → ⊥) where
  binary : Binary (inner c) c.gates
  binary = order-binary (inner c) c.gates ((order-exactly c).0 t).gates

  before : ℕ → Value
  before = values_of c s i

  blames-fall : AllG (Falls (blames before)) c.gates
  blames-fall =
      all_map (Falls sides_of) (Falls (blames before)) (λ g f v h. f v (blames-sides before g v h)) c.gates
      (sides-fall (inner c) c.gates binary)

  -- the list has exactly the variables of the walk
  pub blamed-exactly : (v : ℕ) → (has v (blamed c s i l) ≡ true) ↔ Blamed c s i l v
  unfolding before
  blamed-exactly =
      walk-exactly (blames before) (var_of l ∷ []) (inner c) c.gates binary blames-fall (gates-found c (accepted c w))

  blamed-closed : (u v : ℕ) (g : Gate) → find u c.gates ≡ Some g → has v (blames before g) ≡ true → has u (blamed c s i l) ≡ true
      → has v (blamed c s i l) ≡ true
  unfolding before
  blamed-closed u v g = walk-closed (blames before) (var_of l ∷ []) (inner c) c.gates binary blames-fall u v g

  found_left : (u : ℕ) (g : Gate) → find u c.gates ≡ Some g → var_of g.lhs ≡ u
  found_left u g e = go (subst (FindSays u c.gates) e (find-says u c.gates))
    where
      go : FindSays u c.gates (Some g) → var_of g.lhs ≡ u
      go f = f.0

  gate-and : (u : ℕ) (g : Gate) → find u c.gates ≡ Some g → before u ≡ and (lit before g.rhs0) (lit before g.rhs1)
  unfolding before
  gate-and u g e = values-solve c (accepted c w) s i u ∙ ap (gate_value (values_of c s i) (leaf_value c s i u)) e

  -- what is blamed was 0 or 1
  side-known : (u v : ℕ) (g : Gate) → find u c.gates ≡ Some g → (a : Value) → before u ≡ a → has v (blames_at a before g) ≡ true
      → before v ≡ vx → ⊥
  side-known u v g e v1 p h q =
      let both-1 = and-1 (lit before g.rhs0) (lit before g.rhs1) (sym (gate-and u g e) ∙ p) in
      has-cases ⊥ (var_of g.rhs0) v (var_of g.rhs1 ∷ []) h
      (λ r. v1-not-x (sym both-1.0 ∙ x-lit before g.rhs0 (ap before r ∙ q)))
      (λ k. has-cases ⊥ (var_of g.rhs1) v [] k (λ r. v1-not-x (sym both-1.1 ∙ x-lit before g.rhs1 (ap before r ∙ q)))
      (λ f. false≢true f))
  side-known u v g e vx p h q = false≢true h
  side-known u v g e v0 p h q = go (same (lit before g.rhs0) v0) refl h
    where
      go : (r : Bool) → same (lit before g.rhs0) v0 ≡ r → has v (cond r (var_of g.rhs0) (var_of g.rhs1) ∷ []) ≡ true → ⊥
      go true f k =
          has-cases ⊥ (var_of g.rhs0) v [] k
          (λ r. v0-not-x (sym (is0-0 (lit before g.rhs0) f) ∙ x-lit before g.rhs0 (ap before r ∙ q))) (λ z. false≢true z)
      go false f k =
          has-cases ⊥ (var_of g.rhs1) v [] k
          (λ r. v0-not-x (sym (and_0 (lit before g.rhs0) (lit before g.rhs1) (sym (gate-and u g e) ∙ p) f)
          ∙ x-lit before g.rhs1 (ap before r ∙ q))) (λ z. false≢true z)

  pub blamed-known : {v : ℕ} → Blamed c s i l v → values_of c s i v ≡ vx → ⊥
  unfolding before
  blamed-known (start {v = v} h) q =
      has-cases ⊥ (var_of l) v [] h (λ e. known (x-lit before l (ap before e ∙ q))) (λ z. false≢true z)
  blamed-known (onward {u = u} {v = v} {g = g} b e k) q = side-known u v g e (before (var_of g.lhs)) (ap before (sym (found_left u g e))) k q

  -- every unmarked place turned to x
  marks : List ℕ
  marks = marks_for c s i l

  s' : List Value
  s' = only_state c marks s

  i' : List Value
  i' = only_inputs c marks i

  after : ℕ → Value
  after = values_of c s' i'

  state-only : s' ≡ only (map (mark (blamed c s i l)) (current_vars c.latches)) s
  unfolding s' marks
  state-only =
      ap (λ (m : List ℕ). only m s) (take-marks (mark (blamed c s i l)) (current_vars c.latches) (vars c.inputs) (length c.latches)
      (length-currents c.latches))

  inputs-only : i' ≡ only (map (mark (blamed c s i l)) (vars c.inputs)) i
  unfolding i' marks
  inputs-only =
      ap (λ (m : List ℕ). only m i) (drop-marks (mark (blamed c s i l)) (current_vars c.latches) (vars c.inputs) (length c.latches)
      (length-currents c.latches))

  both-only : i' ++ s' ≡ only (map (mark (blamed c s i l)) (vars c.inputs ++ current_vars c.latches)) (i ++ s)
  both-only =
      ap₂ (λ (x y : List Value). x ++ y) inputs-only state-only
      ∙ only-append (map (mark (blamed c s i l)) (vars c.inputs)) (map (mark (blamed c s i l)) (current_vars c.latches)) i s
      (length-map (vars c.inputs) (mark (blamed c s i l)) ∙ length-vars c.inputs ∙ sym li)
      ∙ ap (λ (m : List ℕ). only m (i ++ s)) (sym (map-append (mark (blamed c s i l)) (vars c.inputs) (current_vars c.latches)))

  leaf-kept : (v : ℕ) → has v (blamed c s i l) ≡ true → leaf_value c s' i' v ≡ leaf_value c s i v
  leaf-kept v h = go (eqb 0 v)
    where
      us : List ℕ
      us = vars c.inputs ++ current_vars c.latches

      sizes : length us ≡ length (i ++ s)
      sizes =
          omega (
            arith,
            length-append (vars c.inputs) (current_vars c.latches),
            length-append i s,
            length-vars c.inputs,
            length-currents c.latches,
          )

      go : (r : Bool) → get_or (v0 ∷ (i' ++ s')) (cond r zero (suc (index v us))) vx ≡ get_or (v0 ∷ (i ++ s)) (cond r zero (suc (index v us))) vx
      go true = refl
      go false = ap (λ (x : List Value). get_or x (index v us) vx) both-only ∙ leaf-only (blamed c s i l) us (i ++ s) sizes v h

  -- what is blamed keeps its value
  gate-kept : (v : ℕ) (g : Gate) → find v c.gates ≡ Some g → has v (blamed c s i l) ≡ true
      → ((u : ℕ) → has u (sides_of g) ≡ true → has u (blamed c s i l) ≡ true → after u ≡ before u)
      → (a : Value) → before v ≡ a → and (lit after g.rhs0) (lit after g.rhs1) ≡ before v
  unfolding before
  gate-kept v g e h ih vx p = absurd (blamed-known ((blamed-exactly v).0 h) p)
  gate-kept v g e h ih v1 p =
      let at : before (var_of g.lhs) ≡ v1 = ap before (found_left v g e) ∙ p in
      let blamed-side : (u : ℕ) → has u (sides_of g) ≡ true → has u (blamed c s i l) ≡ true
      = λ u k. blamed-closed v u g e (subst (λ (a : Value). has u (blames_at a before g) ≡ true) (sym at) k) h in
      let r0 = has-self (var_of g.rhs0) (var_of g.rhs1 ∷ []) in
      let r1 = has-later (var_of g.rhs1) (var_of g.rhs0) (var_of g.rhs1 ∷ []) (has-self (var_of g.rhs1) []) in
      ap₂ and (ap (signed_value (sign_of g.rhs0)) (ih (var_of g.rhs0) r0 (blamed-side (var_of g.rhs0) r0)))
      (ap (signed_value (sign_of g.rhs1)) (ih (var_of g.rhs1) r1 (blamed-side (var_of g.rhs1) r1)))
      ∙ sym (gate-and v g e)
  gate-kept v g e h ih v0 p = go (same (lit before g.rhs0) v0) refl ∙ sym p
    where
      at : before (var_of g.lhs) ≡ v0
      at = ap before (found_left v g e) ∙ p

      chosen : (r : Bool) → same (lit before g.rhs0) v0 ≡ r → has (cond r (var_of g.rhs0) (var_of g.rhs1)) (blamed c s i l) ≡ true
      chosen r f =
          blamed-closed v (cond r (var_of g.rhs0) (var_of g.rhs1)) g e
          (subst (λ (a : Value). has (cond r (var_of g.rhs0) (var_of g.rhs1)) (blames_at a before g) ≡ true) (sym at)
          (subst (λ (q : Bool). has (cond r (var_of g.rhs0) (var_of g.rhs1)) (cond q (var_of g.rhs0) (var_of g.rhs1) ∷ []) ≡ true)
          (sym f) (has-self (cond r (var_of g.rhs0) (var_of g.rhs1)) []))) h

      go : (r : Bool) → same (lit before g.rhs0) v0 ≡ r → and (lit after g.rhs0) (lit after g.rhs1) ≡ v0
      go true f =
          zero_left (lit after g.rhs0) (lit after g.rhs1)
          (ap (signed_value (sign_of g.rhs0))
          (ih (var_of g.rhs0) (has-self (var_of g.rhs0) (var_of g.rhs1 ∷ [])) (chosen true f))
          ∙ is0-0 (lit before g.rhs0) f)
      go false f =
          zero_right (lit after g.rhs0) (lit after g.rhs1)
          (ap (signed_value (sign_of g.rhs1))
          (ih (var_of g.rhs1)
          (has-later (var_of g.rhs1) (var_of g.rhs0) (var_of g.rhs1 ∷ []) (has-self (var_of g.rhs1) [])) (chosen false f))
          ∙ and_0 (lit before g.rhs0) (lit before g.rhs1) (sym (gate-and v g e) ∙ p) f)

  both-side : (f : ℕ → Bool) (g : Gate) → both f (Some g) ≡ true → (u : ℕ) → has u (sides_of g) ≡ true → f u ≡ true
  both-side f g h u k =
      has-cases (f u ≡ true) (var_of g.rhs0) u (var_of g.rhs1 ∷ []) k
      (λ e. subst (λ (x : ℕ). f x ≡ true) e (and_left (f (var_of g.rhs0)) (f (var_of g.rhs1)) h))
      (λ m. has-cases (f u ≡ true) (var_of g.rhs1) u [] m
      (λ e. subst (λ (x : ℕ). f x ≡ true) e (and_right (f (var_of g.rhs0)) (f (var_of g.rhs1)) h)) (λ z. absurd (false≢true z)))

  leaf-case : (v : ℕ) → has v (blamed c s i l) ≡ true → find v c.gates ≡ None → after v ≡ before v
  unfolding before after
  leaf-case v h e =
      values-solve c (accepted c w) s' i' v ∙ ap (gate_value (values_of c s' i') (leaf_value c s' i' v)) e ∙ leaf-kept v h
      ∙ sym (values-solve c (accepted c w) s i v ∙ ap (gate_value (values_of c s i) (leaf_value c s i v)) e)

  kept : (k v : ℕ) → settled c.gates k v ≡ true → has v (blamed c s i l) ≡ true → after v ≡ before v
  unfolding after
  kept zero v p h = go (find v c.gates) refl p
    where
      go : (o : Option Gate) → find v c.gates ≡ o → is_none o ≡ true → after v ≡ before v
      go None e q = leaf-case v h e
      go (Some g) e q = absurd (false≢true q)
  kept (suc k) v p h = go (find v c.gates) refl p (kept k)
    where
      go : (o : Option Gate) → find v c.gates ≡ o → both (λ u. settled c.gates k u) o ≡ true
          → ((u : ℕ) → settled c.gates k u ≡ true → has u (blamed c s i l) ≡ true → after u ≡ before u) → after v ≡ before v
      go None e q ih = leaf-case v h e
      go (Some g) e q ih =
          after-and ∙ gate-kept v g e h (λ u m b. ih u (both-side (λ u. settled c.gates k u) g q u m) b) (before v) refl
        where
          after-and : after v ≡ and (lit after g.rhs0) (lit after g.rhs1)
          after-and = values-solve c (accepted c w) s' i' v ∙ ap (gate_value (values_of c s' i') (leaf_value c s' i' v)) e

  -- with every unmarked place turned to x the literal keeps its value
  pub explain-keeps : lit (values_of c (only_state c (marks_for c s i l) s) (only_inputs c (marks_for c s i l) i)) l ≡ lit (values_of c s i) l
  unfolding before after s' i' marks
  explain-keeps =
      ap (signed_value (sign_of l)) (kept (length c.gates) (var_of l) ((accepted c w).settles (var_of l))
      (from-walked (blames before) (var_of l ∷ []) c.gates (var_of l) (has-self (var_of l) [])))
