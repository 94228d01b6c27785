-- The numbers of a refusal, each by its own reason.
use Prim.Native.Nat.{ℕ}
use mathlib.Core.Path.{◌≡◌}
use mathlib.Core.List.{List, ◌∷◌}

pub refusal-told : {number number' place place' : ℕ} {values values' : List ℕ} → number ≡ number' → place ≡ place' → values ≡ values'
    → ◌≡◌ {A = List ℕ} (number ∷ place ∷ values) (number' ∷ place' ∷ values')
refusal-told p q e = λ i. p i ∷ q i ∷ e i
