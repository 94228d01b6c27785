-- A length against a product, by division, so that no product can wrap.
use Prim.Native.Nat.{ℕ, ◌+◌, ◌*◌, ◌/◌, ◌%◌, ◌<◌}
use mathlib.Core.Path.{◌≡◌, refl, sym, ap, ◌∙◌}
use mathlib.Core.Bool.{Bool, true, false}
use native.Mathlib.Nat.{mul-zero, div-add-mod', div-eq_of_eq-mul_left}
use native.Mathlib.Omega.{arith}
use borrow.Author.Tests.{eqb-true, eqb-false, eq-eqb, ne_eqb}
use lib.Dec.{eqb}

pub none_each : (bytes number each : ℕ) → each ≡ 0 → eqb bytes 0 ≡ eqb bytes (number * each)
none_each bytes number each e = ap (eqb bytes) (sym (ap (λ (k : ℕ). number * k) e ∙ mul-zero number))

module _ (bytes number each : ℕ) where
  pub other-number : 0 < each → (bytes / each ≡ number → ⊥) → false ≡ eqb bytes (number * each)
  other-number h n = sym (ne_eqb bytes (number * each) (λ e. n (div-eq_of_eq-mul_left h e)))

  -- the number is right, so the rest decides
  pub rest-decides : bytes / each ≡ number → eqb (bytes % each) 0 ≡ eqb bytes (number * each)
  rest-decides e = go (eqb (bytes % each) 0) refl
    where
      parts : number * each + bytes % each ≡ bytes
      parts = ap (λ (k : ℕ). k * each + bytes % each) (sym e) ∙ div-add-mod' bytes each

      go : (b : Bool) → eqb (bytes % each) 0 ≡ b → b ≡ eqb bytes (number * each)
      go true q = sym (eq-eqb bytes (number * each) (omega (arith, parts, eqb-true (bytes % each) 0 q)))
      go false q = sym (ne_eqb bytes (number * each) (λ z. eqb-false (bytes % each) 0 q (omega (arith, parts))))
