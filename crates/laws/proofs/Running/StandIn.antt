-- The literal that stands in for a gate, if one does: its value refines the gate's, and it is of a variable in use.
use Prim.Native.Nat.{ℕ, suc, ◌+◌, ◌≤◌, ◌<◌, min, max}
use mathlib.Core.Path.{◌≡◌, refl, sym, ap, ap₂, ◌∙◌, subst}
use mathlib.Core.Bool.{Bool, true, false, cond, ◌&&◌, ◌||◌}
use mathlib.Core.List.{List, [], ◌∷◌}
use Rattle.std.specs.Prelude.{Option, Some, None}
use native.Mathlib.Omega.{arith}
use borrow.Author.Tests.{eqb-true}
use lib.Dec.{eqb}
use lib.ListN.{length}
use Rattle.plan.specs.Literals.{var_of, neg_of}
use Rattle.plan.specs.Circuit.{Gate}
use Rattle.plan.specs.Step.{Value, v0, v1, vx, and, inv, lit}
use Rattle.plan.specs.Reduce.{twin, stand_in}
use Rattle.laws.proofs.Reading.Common.{and_left, and_right}
use Rattle.laws.proofs.Running.Refinement.{Le, le_of, and_comm}
use Rattle.laws.proofs.Running.Signs.{lit-neg, larger-first}
use Rattle.laws.proofs.Running.Binary.{Binary, Holds}

-- of the literal, if there is one
abbrev pub All : (ℕ → Type 0) → Option ℕ → Type 0
All P None = Unit {0}
All P (Some l) = P l

all-pick : (P : ℕ → Type 0) (t : Bool) (l : ℕ) (o : Option ℕ) → (t ≡ true → P l) → All P o → All P (cond t (Some l) o)
all-pick P true l o h k = h refl
all-pick P false l o h k = k

or_cases : (C : Type 0) (a b : Bool) → (a || b) ≡ true → (a ≡ true → C) → (b ≡ true → C) → C
or_cases C true b p f g = f refl
or_cases C false b p f g = g p

-- the laws of one-level folding
and_same : (a : Value) → and a a ≡ a
and_same v0 = refl
and_same v1 = refl
and_same vx = refl

and-inv : (a : Value) → Le (and (inv a) a) v0
and-inv v0 = tt
and-inv v1 = tt
and-inv vx = tt

and_0 : (a : Value) → and v0 a ≡ v0
and_0 v0 = refl
and_0 v1 = refl
and_0 vx = refl

and-1 : (a : Value) → and v1 a ≡ a
and-1 v0 = refl
and-1 v1 = refl
and-1 vx = refl

module _ (w : ℕ → Value) (zero_is : w 0 ≡ v0) where
  abbrev pub Stands : ℕ → ℕ → ℕ → Type 0
  Stands a b l = Le (and (lit w a) (lit w b)) (lit w l)

  twin-stands : (a b : ℕ) (ks : List Gate) → Holds w ks → All (λ l. lit w l ≡ and (lit w a) (lit w b)) (twin a b ks)
  twin-stands a b [] h = tt
  twin-stands a b (g ∷ ks) h =
      all-pick (λ l. lit w l ≡ and (lit w a) (lit w b)) (eqb g.rhs0 a && eqb g.rhs1 b) g.lhs (twin a b ks)
      (λ p. h.0 ∙ ap₂ (λ (x y : ℕ). and (lit w x) (lit w y)) (eqb-true g.rhs0 a (and_left (eqb g.rhs0 a) (eqb g.rhs1 b) p))
      (eqb-true g.rhs1 b (and_right (eqb g.rhs0 a) (eqb g.rhs1 b) p)))
      (twin-stands a b ks h.1)

  all_map : (P Q : ℕ → Type 0) → ((l : ℕ) → P l → Q l) → (o : Option ℕ) → All P o → All Q o
  all_map P Q f None h = tt
  all_map P Q f (Some l) h = f l h

  left-0 : (a b : ℕ) → eqb a 0 ≡ true → and (lit w a) (lit w b) ≡ lit w 0
  left-0 a b q = ap (λ (t : Value). and t (lit w b)) (ap (lit w) (eqb-true a 0 q) ∙ zero_is) ∙ and_0 (lit w b) ∙ sym zero_is

  left-1 : (a b : ℕ) → eqb a 1 ≡ true → and (lit w a) (lit w b) ≡ lit w b
  left-1 a b q = ap (λ (t : Value). and t (lit w b)) (ap (lit w) (eqb-true a 1 q) ∙ ap inv zero_is) ∙ and-1 (lit w b)

  opposite : (a b : ℕ) → eqb a (neg_of b) ≡ true → Stands a b 0
  opposite a b q =
      subst (λ (t : Value). Le (and t (lit w b)) (w 0)) (sym (ap (lit w) (eqb-true a (neg_of b) q) ∙ lit-neg w b))
      (subst (λ (t : Value). Le (and (inv (lit w b)) (lit w b)) t) (sym zero_is) (and-inv (lit w b)))

  -- what stands in for a gate refines it
  pub stand_in-stands : (a b : ℕ) (ks : List Gate) → Holds w ks → All (Stands a b) (stand_in a b ks)
  stand_in-stands a b ks h =
      all-pick (Stands a b) (eqb a b) a _ (λ p. le_of (ap (λ (x : ℕ). and (lit w a) (lit w x)) (sym (eqb-true a b p)) ∙ and_same (lit w a)))
      (all-pick (Stands a b) (eqb a (neg_of b)) 0 _ (λ p. opposite a b p)
      (all-pick (Stands a b) (eqb a 0 || eqb b 0) 0 _
      (λ p. or_cases (Stands a b 0) (eqb a 0) (eqb b 0) p (λ q. le_of (left-0 a b q))
      (λ q. le_of (and_comm (lit w a) (lit w b) ∙ left-0 b a q)))
      (all-pick (Stands a b) (eqb a 1) b _ (λ p. le_of (left-1 a b p))
      (all-pick (Stands a b) (eqb b 1) a _ (λ p. le_of (and_comm (lit w a) (lit w b) ∙ left-1 b a p))
      (all_map (λ l. lit w l ≡ and (lit w (max a b)) (lit w (min a b))) (Stands a b) (λ l q. le_of (sym (q ∙ larger-first w a b)))
      (twin (max a b) (min a b) ks) (twin-stands (max a b) (min a b) ks h))))))

pub twin-low : (n : ℕ) (a b : ℕ) (ks : List Gate) → Binary n ks → All (λ l. var_of l < n + length ks) (twin a b ks)
twin-low n a b [] h = tt
twin-low n a b (g ∷ ks) h =
    all-pick (λ l. var_of l < n + length (g ∷ ks)) (eqb g.rhs0 a && eqb g.rhs1 b) g.lhs (twin a b ks)
    (λ p. omega (arith, h.0))
    (all-weaken (suc n + length ks) (n + suc (length ks)) (omega arith) (twin a b ks) (twin-low (suc n) a b ks h.3))
  where
    all-weaken : (x y : ℕ) → x ≤ y → (o : Option ℕ) → All (λ l. var_of l < x) o → All (λ l. var_of l < y) o
    all-weaken x y q None t = tt
    all-weaken x y q (Some l) t = omega arith

pub stand_in-low : (f a b : ℕ) (ks : List Gate) → 0 < f → var_of a < f → var_of b < f → All (λ l. var_of l < f) (twin (max a b) (min a b) ks)
    → All (λ l. var_of l < f) (stand_in a b ks)
stand_in-low f a b ks h p q t =
    all-pick P (eqb a b) a _ (λ _. p)
    (all-pick P (eqb a (neg_of b)) 0 _ (λ _. h)
    (all-pick P (eqb a 0 || eqb b 0) 0 _ (λ _. h)
    (all-pick P (eqb a 1) b _ (λ _. q)
    (all-pick P (eqb b 1) a _ (λ _. p) t))))
  where
    P : ℕ → Type 0
    P l = var_of l < f
