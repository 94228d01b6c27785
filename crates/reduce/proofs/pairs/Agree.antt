-- Two paths agree as far as their symbols are equal.
use mathlib.Core.Path.{◌≡◌, refl, ap, ap₂, subst}
use mathlib.Core.Bool.{Bool, true, false, ◌&&◌}
use Prim.Native.Nat.{ℕ, zero, suc, ◌<◌}
use native.Mathlib.Omega.{arith}
use native.Mathlib.Nat.{not-suc-le-zero}
use borrow.Author.Tests.{eqb-true, eqb-false, eq-eqb}
use lib.Dec.{eqb}
use Rattle.laws.proofs.Reading.Common.{and_left, and_right}
use Rattle.reduce.specs.pairs.Tree.{agree}

abbrev pub Agree : ℕ → (ℕ → ℕ) → (ℕ → ℕ) → Type 0
Agree d p q = (e : ℕ) → e < d → p e ≡ q e

pub agreeing : (d : ℕ) (p q : ℕ → ℕ) → agree d p q ≡ true → Agree d p q
agreeing zero p q h e l = absurd (not-suc-le-zero l)
agreeing (suc d) p q h e l = go (eqb d e) refl (agreeing d p q (and_left (agree d p q) (eqb (p d) (q d)) h))
  where
    go : (b : Bool) → eqb d e ≡ b → Agree d p q → p e ≡ q e
    go true c ih = subst (λ (j : ℕ). p j ≡ q j) (eqb-true d e c) (eqb-true (p d) (q d) (and_right (agree d p q) (eqb (p d) (q d)) h))
    go false c ih = ih e (omega (arith, eqb-false d e c))

pub agreed : (d : ℕ) (p q : ℕ → ℕ) → Agree d p q → agree d p q ≡ true
agreed zero p q h = refl
agreed (suc d) p q h = ap₂ (λ (x y : Bool). x && y) (agreed d p q (λ e l. h e (omega arith))) (eq-eqb (p d) (q d) (h d (omega arith)))

pub agree_left : (d : ℕ) (p q r : ℕ → ℕ) → Agree d p q → agree d p r ≡ agree d q r
agree_left zero p q r h = refl
agree_left (suc d) p q r h =
    ap₂ (λ (x y : Bool). x && y) (agree_left d p q r (λ e l. h e (omega arith))) (ap (λ (z : ℕ). eqb z (r d)) (h d (omega arith)))
