-- The value of a literal: of a variable's own, negated, signed; And of two literals in either order.
use Prim.Native.Nat.{ℕ, zero, suc, ◌*◌, ◌%◌, ◌/◌, ◌≤◌, ◌<◌, min, max}
use mathlib.Core.Path.{◌≡◌, refl, sym, ap, ap₂, ◌∙◌}
use mathlib.Core.Bool.{Bool, true, false}
use native.Mathlib.Omega.{arith}
use borrow.Author.Tests.{leb-true, leb-false}
use lib.Dec.{leb}
use Rattle.plan.specs.Literals.{lit_of, var_of, sign_of, neg_of, signed}
use Rattle.plan.specs.Step.{Value, v0, v1, vx, and, inv, signed_value, lit}
use Rattle.laws.proofs.Running.Refinement.{and_comm}

half-double : (n : ℕ) → (2 * n) / 2 ≡ n
half-double n = omega arith

pub lit-double : (w : ℕ → Value) (n : ℕ) → lit w (lit_of n) ≡ w n
lit-double w n = rw (two-mod n, half-double n)
  where
    two-mod : (k : ℕ) → (2 * k) % 2 ≡ 0
    two-mod k = omega arith

-- a literal's negation
inv-inv : (a : Value) → a ≡ inv (inv a)
inv-inv v0 = refl
inv-inv v1 = refl
inv-inv vx = refl

pub lit-neg : (w : ℕ → Value) (l : ℕ) → lit w (neg_of l) ≡ inv (lit w l)
lit-neg w l = go (sign_of l) refl
  where
    same_half : var_of (neg_of l) ≡ var_of l
    same_half = omega arith

    go : (s : ℕ) → sign_of l ≡ s → lit w (neg_of l) ≡ inv (lit w l)
    go zero p =
        let q : sign_of (neg_of l) ≡ 1 = omega arith in
        ap₂ (λ (s u : ℕ). signed_value s (w u)) q same_half ∙ ap (λ (s : ℕ). inv (signed_value s (w (var_of l)))) (sym p)
    go (suc s) p =
        let q : sign_of (neg_of l) ≡ 0 = omega arith in
        ap₂ (λ (s u : ℕ). signed_value s (w u)) q same_half ∙ inv-inv (w (var_of l))
        ∙ ap (λ (s : ℕ). inv (signed_value s (w (var_of l)))) (sym p)

pub lit-signed : (w : ℕ → Value) (s l : ℕ) → lit w (signed s l) ≡ signed_value s (lit w l)
lit-signed w zero l = refl
lit-signed w (suc s) l = lit-neg w l

pub signed-half : (s l : ℕ) → var_of (signed s l) ≡ var_of l
signed-half zero l = refl
signed-half (suc s) l = omega arith

-- the two sides, larger first, have the same And
pub larger-first : (w : ℕ → Value) (a b : ℕ) → and (lit w (max a b)) (lit w (min a b)) ≡ and (lit w a) (lit w b)
larger-first w a b = go (leb a b) refl
  where
    go : (t : Bool) → leb a b ≡ t → and (lit w (max a b)) (lit w (min a b)) ≡ and (lit w a) (lit w b)
    go true p =
        let h : a ≤ b = leb-true a b p in
        let hi : max a b ≡ b = omega arith in
        let lo : min a b ≡ a = omega arith in
        ap₂ (λ (x y : ℕ). and (lit w x) (lit w y)) hi lo ∙ and_comm (lit w b) (lit w a)
    go false p =
        let h : b < a = leb-false a b p in
        let hi : max a b ≡ a = omega arith in
        let lo : min a b ≡ b = omega arith in
        ap₂ (λ (x y : ℕ). and (lit w x) (lit w y)) hi lo
