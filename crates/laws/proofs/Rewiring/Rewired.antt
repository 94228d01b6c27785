-- One gate rewired: no other gate changes; in binary order still; no value changes of a variable that does not depend on the gate.
use Prim.Native.Nat.{ℕ, zero, suc, ◌+◌, ◌<◌, min, max}
use mathlib.Core.Path.{◌≡◌, refl, sym, ap, ap₂, ◌∙◌, subst}
use mathlib.Core.Bool.{Bool, true, false, cond, false≢true}
use mathlib.Core.Logic.{◌↔◌}
use mathlib.Core.List.{List, [], ◌∷◌}
use Rattle.std.specs.Prelude.{Option, Some, None}
use native.Mathlib.Omega.{arith}
use native.Mathlib.Decide.{ℕ_discrete}
use borrow.Author.Tests.{ne_eqb}
use lib.Dec.{eqb}
use lib.ListN.{length}
use Rattle.plan.specs.Literals.{lit_of, var_of, sign_of}
use Rattle.plan.specs.Circuit.{Gate, Circuit, nexts, has}
use Rattle.plan.specs.Depends.{find, side, Uses, Depends, one, more, is_none, both, settled}
use Rattle.plan.specs.Reading.{WellFormed}
use Rattle.plan.specs.Binary.{binary_order}
use Rattle.plan.specs.Step.{Value, and, signed_value, gate_value, leaf_value, values_of}
use Rattle.laws.proofs.Reading.Common.{and_left, and_right}
use Rattle.laws.proofs.Reading.Members.{has-self, has-later}
use Rattle.laws.proofs.Reading.Order.{InOrder}
use Rattle.laws.proofs.Reading.Runs.{BinaryOrder, order-exactly}
use Rattle.laws.proofs.Running.Found.{FindSays, find-says}
use Rattle.laws.proofs.Running.Accepted.{accepted}
use Rattle.laws.proofs.Running.GateValue.{values-solve}
use Rattle.laws.proofs.Running.Binary.{Binary, inner, Bounded}
use Rattle.laws.proofs.Running.InOrder.{order-binary, well-ordered, well-formed}
use Rattle.plan.specs.Drop.{sides_of}
use Rattle.plan.specs.Rewire.{rewired_gates, rewire}
use Rattle.laws.proofs.Walks.Walk.{Falls}
use Rattle.laws.proofs.Walks.Used.{sides-fall}

pub length-rewired : (k a b : ℕ) (gs : List Gate) → length (rewired_gates k a b gs) ≡ length gs
length-rewired k a b [] = refl
length-rewired zero a b (g ∷ gs) = refl
length-rewired (suc k) a b (g ∷ gs) = ap suc (length-rewired k a b gs)

-- no gate but the named one changes
pub find-other : (n k a b : ℕ) (gs : List Gate) → Binary n gs → (u : ℕ) → (u ≡ n + k → ⊥) → find u (rewired_gates k a b gs) ≡ find u gs
find-other n k a b [] o u h = refl
find-other n zero a b (g ∷ gs) o u h =
    let e : eqb (var_of g.lhs) u ≡ false = ne_eqb (var_of g.lhs) u (λ p. h (omega (arith, p, o.0))) in
    ap (λ (t : Bool). cond t (Some (record { lhs = g.lhs; rhs0 = max a b; rhs1 = min a b })) (find u gs)) e
    ∙ ap (λ (t : Bool). cond t (Some g) (find u gs)) (sym e)
find-other n (suc k) a b (g ∷ gs) o u h =
    ap (λ (r : Option Gate). cond (eqb (var_of g.lhs) u) (Some g) r) (find-other (suc n) k a b gs o.3 u (λ p. h (omega arith)))

pub rewired-order : (n k a b : ℕ) (gs : List Gate) → InOrder n gs → a < lit_of (n + k) → b < lit_of (n + k) → InOrder n (rewired_gates k a b gs)
rewired-order n k a b [] o p q = tt
rewired-order n zero a b (g ∷ gs) o p q = (o.0, omega (arith, o.0), omega arith, o.3)
rewired-order n (suc k) a b (g ∷ gs) o p q = (o.0, o.1, o.2, rewired-order (suc n) k a b gs o.3 (omega arith) (omega arith))

-- in binary order what a variable uses is below it
uses-below : (n : ℕ) (gs : List Gate) → Binary n gs → (u v : ℕ) → Uses gs u v → v < u
uses-below n gs b u v x = go (subst (FindSays u gs) x.2 (find-says u gs))
  where
    in-sides : (t : Bool) (g : Gate) → has (side t g) (sides_of g) ≡ true
    in-sides true g = has-self (var_of g.rhs0) (var_of g.rhs1 ∷ [])
    in-sides false g = has-later (var_of g.rhs1) (var_of g.rhs0) (var_of g.rhs1 ∷ []) (has-self (var_of g.rhs1) [])

    go : FindSays u gs (Some x.0) → v < u
    go f =
        let lt = f.1 (Falls sides_of) (sides-fall n gs b) (side x.1 x.0) (in-sides x.1 x.0) in
        subst (λ (y : ℕ). v < y) f.0 (subst (λ (y : ℕ). y < var_of x.0.lhs) x.3 lt)

pub depends-below : (n : ℕ) (gs : List Gate) → Binary n gs → {u v : ℕ} → Depends gs u v → v < u
depends-below n gs b (one {u = u} {v = v} x) = uses-below n gs b u v x
depends-below n gs b (more {u = u} {v = v} x d) = let p = uses-below n gs b u v x in let q = depends-below n gs b d in omega arith

-- two lists of gates that differ in the gate of v alone: the same variables but v depend on v
module _ (gs hs : List Gate) (v : ℕ) (same : (u : ℕ) → (u ≡ v → ⊥) → find u gs ≡ find u hs) where
  depends-still : {u : ℕ} → (u ≡ v → ⊥) → Depends gs u v → Depends hs u v
  depends-still n (one {u = u} x) = one (x.0, x.1, sym (same u n) ∙ x.2, x.3)
  depends-still n (more {u = u} {v = y} x d) =
      go (ℕ_discrete y v) (λ m. depends-still m d)
    where
      moved : Uses hs u y
      moved = (x.0, x.1, sym (same u n) ∙ x.2, x.3)

      go : Dec (y ≡ v) → ((y ≡ v → ⊥) → Depends hs y v) → Depends hs u v
      go (yes e) ih = one (subst (λ (z : ℕ). Uses hs u z) e moved)
      go (no m) ih = more moved (ih m)

module _ (c : Circuit) (w : WellFormed c) (t : binary_order c ≡ true) (k a b : ℕ) (ka : a < lit_of (inner c + k)) (kb : b < lit_of (inner c + k)) where
  order : BinaryOrder c
  order = (order-exactly c).0 t

  binary : Binary (inner c) c.gates
  binary = order-binary (inner c) c.gates order.gates

  rewire-order : BinaryOrder (rewire c k a b)
  rewire-order = record {
    sum = ap (λ (n : ℕ). length c.inputs + length c.latches + n) (length-rewired k a b c.gates) ∙ order.sum;
    inputs = order.inputs;
    latches = order.latches;
    gates = rewired-order (inner c) k a b c.gates order.gates ka kb;
  }

  pub rewire-in-order : binary_order (rewire c k a b) ≡ true
  rewire-in-order = (order-exactly (rewire c k a b)).1 rewire-order

  pub rewire-well-formed : WellFormed (rewire c k a b)
  rewire-well-formed =
      let within = well-ordered c order w in
      well-formed (rewire c k a b) rewire-order w.most-M w.most-O w.most-B w.most-C w.resets
      (subst (λ (n : ℕ). Bounded n (nexts c.latches)) numbers within.next-in)
      (subst (λ (n : ℕ). Bounded n c.outputs) numbers within.output-in)
      (subst (λ (n : ℕ). Bounded n c.bads) numbers within.bad-in)
      (subst (λ (n : ℕ). Bounded n c.constraints) numbers within.constraint-in)
    where
      numbers : inner c + length c.gates ≡ suc c.M
      numbers = omega (arith, order.sum)

  -- another variable depends on the gate before exactly if it does so after
  pub depends-same : (u : ℕ) → (u ≡ inner c + k → ⊥)
      → Depends c.gates u (inner c + k) ↔ Depends (rewire c k a b).gates u (inner c + k)
  depends-same u n = (
    depends-still c.gates (rewire c k a b).gates (inner c + k) (λ x m. sym (find-other (inner c) k a b c.gates binary x m)) n,
    depends-still (rewire c k a b).gates c.gates (inner c + k) (λ x m. find-other (inner c) k a b c.gates binary x m) n,
  )

  module _ (s i : List Value) where
    before : ℕ → Value
    before = values_of c s i

    after : ℕ → Value
    after = values_of (rewire c k a b) s i

    after_is : (u : ℕ) → (u ≡ inner c + k → ⊥) → (o : Option Gate) → find u c.gates ≡ o → after u ≡ gate_value after (leaf_value c s i u) o
    unfolding after
    after_is u n o e =
        values-solve (rewire c k a b) (accepted (rewire c k a b) rewire-well-formed) s i u
        ∙ ap (gate_value after (leaf_value c s i u)) (find-other (inner c) k a b c.gates binary u n ∙ e)

    before-is : (u : ℕ) (o : Option Gate) → find u c.gates ≡ o → before u ≡ gate_value before (leaf_value c s i u) o
    unfolding before
    before-is u o e = values-solve c (accepted c w) s i u ∙ ap (gate_value before (leaf_value c s i u)) e

    apart : (m u : ℕ) → settled c.gates m u ≡ true → (u ≡ inner c + k → ⊥) → (Depends c.gates u (inner c + k) → ⊥) → after u ≡ before u
    apart zero u p n d = go (find u c.gates) refl p
      where
        go : (o : Option Gate) → find u c.gates ≡ o → is_none o ≡ true → after u ≡ before u
        go None e q = after_is u n None e ∙ sym (before-is u None e)
        go (Some g) e q = absurd (false≢true q)
    apart (suc m) u p n d = go (find u c.gates) refl p (apart m)
      where
        go : (o : Option Gate) → find u c.gates ≡ o → both (λ x. settled c.gates m x) o ≡ true
            → ((x : ℕ) → settled c.gates m x ≡ true → (x ≡ inner c + k → ⊥) → (Depends c.gates x (inner c + k) → ⊥) → after x ≡ before x)
            → after u ≡ before u
        go None e q ih = after_is u n None e ∙ sym (before-is u None e)
        go (Some g) e q ih =
            let kept : (r : Bool) → settled c.gates m (side r g) ≡ true → after (side r g) ≡ before (side r g)
            = λ r f. ih (side r g) f (λ x. d (one (g, r, e, x))) (λ x. d (more (g, r, e, refl) x)) in
            after_is u n (Some g) e
            ∙ ap₂ and (ap (signed_value (sign_of g.rhs0))
            (kept true (and_left (settled c.gates m (var_of g.rhs0)) (settled c.gates m (var_of g.rhs1)) q)))
            (ap (signed_value (sign_of g.rhs1)) (kept false (and_right (settled c.gates m (var_of g.rhs0)) (settled c.gates m (var_of g.rhs1)) q)))
            ∙ sym (before-is u (Some g) e)

    -- no value changes of another variable that does not depend on the gate
    pub rewire-apart : (u : ℕ) → (u ≡ inner c + k → ⊥) → (Depends c.gates u (inner c + k) → ⊥)
        → values_of (rewire c k a b) s i u ≡ values_of c s i u
    unfolding before after
    rewire-apart u n d = apart (length c.gates) u ((accepted c w).settles u) n d

    -- so none changes below the gate
    pub rewire-below : (u : ℕ) → u < inner c + k → values_of (rewire c k a b) s i u ≡ values_of c s i u
    rewire-below u h =
        rewire-apart u (λ e. omega arith) (λ d. let lt = depends-below (inner c) c.gates binary d in omega arith)
