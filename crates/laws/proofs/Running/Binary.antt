-- Gates in binary order: found at their places, settled, their equations.
use Prim.Native.Nat.{ℕ, zero, suc, ◌+◌, ◌≤◌, ◌<◌}
use mathlib.Core.Path.{◌≡◌, refl, sym, ap, ◌∙◌}
use mathlib.Core.Bool.{Bool, true, false, cond}
use mathlib.Core.List.{List, [], ◌∷◌}
use Rattle.std.specs.Prelude.{Some, None}
use native.Mathlib.Omega.{arith}
use borrow.Author.Tests.{eqb-true, eqb-false, eq-eqb, ne_eqb, leb-true, leb-false}
use lib.Dec.{eqb, leb}
use lib.ListN.{length}
use Rattle.plan.specs.Literals.{lit_of, var_of}
use Rattle.plan.specs.Circuit.{Gate, Circuit, nexts}
use Rattle.plan.specs.Depends.{find, both, settled}
use Rattle.plan.specs.Step.{Value, and, lit, gate_value, value_in}
use Rattle.laws.proofs.Reading.Common.{and_intro}
use Rattle.laws.proofs.Running.Values.{value-solves, settled-none}
use Rattle.laws.proofs.Running.Signs.{lit-double}

-- left sides run on from variable n, and each gate's right sides are of lower variables
abbrev pub Binary : ℕ → List Gate → Type 0
Binary n [] = Unit {0}
Binary n (g ∷ gs) = (g.lhs ≡ lit_of n) × (var_of g.rhs0 < n) × (var_of g.rhs1 < n) × Binary (suc n) gs

pub find_none : (n : ℕ) (gs : List Gate) → Binary n gs → (v : ℕ) → v < n → find v gs ≡ None
find_none n [] b v h = refl
find_none n (g ∷ gs) b v h = rw (ne_eqb (var_of g.lhs) v (λ p. omega (arith, p, b.0))) (find_none (suc n) gs b.3 v (omega arith))

pub find-above : (n : ℕ) (gs : List Gate) → Binary n gs → (v : ℕ) → n + length gs ≤ v → find v gs ≡ None
find-above n [] b v h = refl
find-above n (g ∷ gs) b v h = rw (ne_eqb (var_of g.lhs) v (λ p. omega (arith, p, b.0))) (find-above (suc n) gs b.3 v (omega arith))

both_below : (f : ℕ → Bool) (n : ℕ) (gs : List Gate) → Binary n gs → (v : ℕ) → ((u : ℕ) → u < v → f u ≡ true) → both f (find v gs) ≡ true
both_below f n [] b v h = refl
both_below f n (g ∷ gs) b v h = go (both_below f (suc n) gs b.3 v h) (eqb (var_of g.lhs) v) refl
  where
    go : both f (find v gs) ≡ true → (t : Bool) → eqb (var_of g.lhs) v ≡ t → both f (cond t (Some g) (find v gs)) ≡ true
    go ih true p =
        and_intro (f (var_of g.rhs0)) (f (var_of g.rhs1)) (h (var_of g.rhs0) (omega (arith, eqb-true, b.0, b.1)))
        (h (var_of g.rhs1) (omega (arith, eqb-true, b.0, b.2)))
    go ih false p = ih

settled-below : (n : ℕ) (gs : List Gate) → Binary n gs → (k v : ℕ) → v < n + k → settled gs k v ≡ true
settled-below n gs b zero v h = rw (find_none n gs b v (omega arith))
settled-below n gs b (suc k) v h = both_below (λ u. settled gs k u) n gs b v (λ u q. settled-below n gs b k u (omega arith))

-- gates in binary order are settled
pub settled-binary : (n : ℕ) (gs : List Gate) → Binary n gs → (v : ℕ) → settled gs (length gs) v ≡ true
settled-binary n gs b v = go (leb (n + length gs) v) refl
  where
    go : (t : Bool) → leb (n + length gs) v ≡ t → settled gs (length gs) v ≡ true
    go true p = settled-none gs (length gs) v (find-above n gs b v (leb-true _ _ p))
    go false p = settled-below n gs b (length gs) v (leb-false _ _ p)

-- each gate's own equation
abbrev pub Holds : (ℕ → Value) → List Gate → Type 0
Holds w [] = Unit {0}
Holds w (g ∷ gs) = (lit w g.lhs ≡ and (lit w g.rhs0) (lit w g.rhs1)) × Holds w gs

pub holds : (e w : ℕ → Value) (n : ℕ) (gs : List Gate) → Binary n gs → ((v : ℕ) → n ≤ v → w v ≡ gate_value w (e v) (find v gs)) → Holds w gs
holds e w n [] b s = tt
holds e w n (g ∷ gs) b s = (at_n, holds e w (suc n) gs b.3 later)
  where
    at_n : lit w g.lhs ≡ and (lit w g.rhs0) (lit w g.rhs1)
    at_n =
        ap (lit w) b.0 ∙ lit-double w n ∙ s n (omega arith)
        ∙ ap (λ (t : Bool). gate_value w (e n) (cond t (Some g) (find n gs))) (eq-eqb (var_of g.lhs) n (omega (arith, b.0)))

    later : (v : ℕ) → suc n ≤ v → w v ≡ gate_value w (e v) (find v gs)
    later v h =
        s v (omega arith) ∙ ap (λ (t : Bool). gate_value w (e v) (cond t (Some g) (find v gs)))
        (ne_eqb (var_of g.lhs) v (λ p. omega (arith, p, b.0)))

-- the equations at the gates' places
pub solves-in : (w : ℕ → Value) (a : Value) (n : ℕ) (gs : List Gate) → Binary n gs → Holds w gs → (v : ℕ) → n ≤ v → v < n + length gs
    → w v ≡ gate_value w a (find v gs)
solves-in w a n [] b h v p q = absurd (omega arith)
solves-in w a n (g ∷ gs) b h v p q = go (eqb (var_of g.lhs) v) refl (λ r. solves-in w a (suc n) gs b.3 h.1 v r (omega arith))
  where
    go : (t : Bool) → eqb (var_of g.lhs) v ≡ t → (suc n ≤ v → w v ≡ gate_value w a (find v gs))
        → w v ≡ gate_value w a (cond t (Some g) (find v gs))
    go true e f =
        let r : lit_of v ≡ g.lhs = omega (arith, eqb-true, b.0) in
        sym (lit-double w v) ∙ ap (lit w) r ∙ h.0
    go false e f = f (omega (arith, eqb-false (var_of g.lhs) v e, b.0))

-- the leaves' values are what is given
pub leaf-given : (n : ℕ) (gs : List Gate) (e : ℕ → Value) → Binary n gs → (v : ℕ) → v < n → value_in gs e (length gs) v ≡ e v
leaf-given n gs e b v h =
    value-solves gs e (length gs) (settled-binary n gs b) v ∙ ap (gate_value (value_in gs e (length gs)) (e v)) (find_none n gs b v h)

-- each literal's variable is below n
abbrev pub Bounded : ℕ → List ℕ → Type 0
Bounded n [] = Unit {0}
Bounded n (l ∷ ls) = (var_of l < n) × Bounded n ls

-- the first variable after the leaves'
abbrev pub inner : Circuit → ℕ
inner c = 1 + length c.inputs + length c.latches

-- its gates are in binary order, and what it uses has a number
pub record Ordered (c : Circuit) : Type 0 where
  pub gates-in : Binary (inner c) c.gates
  pub next-in : Bounded (inner c + length c.gates) (nexts c.latches)
  pub output-in : Bounded (inner c + length c.gates) c.outputs
  pub bad-in : Bounded (inner c + length c.gates) c.bads
  pub constraint-in : Bounded (inner c + length c.gates) c.constraints
