-- One asks the other: a literal's value from its variable's, a gate's from its right sides'.
use Prim.Native.Nat.{ℕ, zero, suc}
use mathlib.Core.Path.{◌≡◌, refl, sym, ap, ap₂, ◌∙◌}
use Rattle.plan.specs.Literals.{var_of, sign_of}
use Rattle.plan.specs.Step.{Value, code_of, value_of, inv, and, signed_value, lit}
use Rattle.plain.proofs.Codes.{value-code}

module _ (w : ℕ → Value) (l : ℕ) {v s a : ℕ} (var : v ≡ var_of l) (sign : s ≡ sign_of l) (asked : a ≡ code_of (w v)) where
  pub as_is : s ≡ 0 → a ≡ code_of (lit w l)
  as_is z =
      asked ∙ (ap (λ (u : ℕ). code_of (w u)) var
      ∙ ap (λ (k : ℕ). code_of (signed_value k (w (var_of l)))) (sym (sym sign ∙ z)))

  toggled : (k : ℕ) (x : Value) → (k ≡ 0 → ⊥) → signed_value k x ≡ inv x
  toggled zero x h = absurd (h refl)
  toggled (suc k) x h = refl

  pub negated : (s ≡ 0 → ⊥) → {b : ℕ} → b ≡ code_of (inv (value_of a)) → b ≡ code_of (lit w l)
  negated h e =
      e ∙ (ap (λ (k : ℕ). code_of (inv (value_of k))) (asked ∙ ap (λ (u : ℕ). code_of (w u)) var)
      ∙ (ap (λ (x : Value). code_of (inv x)) (value-code (w (var_of l)))
      ∙ ap code_of (sym (toggled (sign_of l) (w (var_of l)) (λ z. h (sign ∙ z))))))

-- the And of two codes is the code of the And
pub both-sides : {a b r : ℕ} (x y : Value) → a ≡ code_of x → b ≡ code_of y → r ≡ code_of (and (value_of a) (value_of b)) → r ≡ code_of (and x y)
both-sides x y ea eb er =
    er ∙ ap₂ (λ (p q : Value). code_of (and p q)) (ap value_of ea ∙ value-code x) (ap value_of eb ∙ value-code y)
