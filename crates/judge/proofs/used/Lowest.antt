-- The least variable over lists of literals, in parts.
use Prim.Native.Nat.{ℕ}
use mathlib.Core.Path.{◌≡◌, refl, ap}
use mathlib.Core.List.{List, [], ◌∷◌, ◌++◌}
use Rattle.plan.specs.Circuit.{Gate, rights}
use Rattle.judge.specs.used.Least.{lower, lowest}

pub lowest-append : (marks : List ℕ) (k : ℕ) (xs ys : List ℕ) → lowest marks k (xs ++ ys) ≡ lowest marks (lowest marks k xs) ys
lowest-append marks k [] ys = refl
lowest-append marks k (x ∷ xs) ys = lowest-append marks (lower marks k x) xs ys

pub rights-snoc : (gs : List Gate) (g : Gate) → rights (gs ++ (g ∷ [])) ≡ rights gs ++ (g.rhs0 ∷ g.rhs1 ∷ [])
rights-snoc [] g = refl
rights-snoc (h ∷ gs) g = ap (λ (l : List ℕ). h.rhs0 ∷ h.rhs1 ∷ l) (rights-snoc gs g)
