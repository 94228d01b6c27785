-- Gates in binary order, at each place of their table: their right sides are of variables below their own.
use Prim.Native.Nat.{ℕ, zero, suc, ◌+◌, ◌<◌}
use mathlib.Core.Path.{◌≡◌, subst}
use mathlib.Core.List.{List, [], ◌∷◌, ◌++◌}
use native.Mathlib.Omega.{arith}
use native.Mathlib.Nat.{not-suc-le-zero}
use native.Mathlib.Decide.{dec_lt}
use lib.ListN.{length}
use Rattle.plan.specs.Literals.{var_of}
use Rattle.plan.specs.Circuit.{Gate}
use Rattle.laws.proofs.Tables.{gate_at, gates_at, length-firsts}
use Rattle.laws.proofs.Running.Binary.{Binary}

abbrev pub Sides : ℕ → Gate → Type 0
Sides n g = (var_of g.rhs0 < n) × (var_of g.rhs1 < n)

front : (n : ℕ) (gs hs : List Gate) → Binary n (gs ++ hs) → Binary n gs
front n [] hs b = tt
front n (x ∷ gs) hs b = (b.0, b.1, b.2, front (suc n) gs hs b.3)

last : (n : ℕ) (gs : List Gate) (g : Gate) → Binary n (gs ++ (g ∷ [])) → Sides (n + length gs) g
last n [] g b = (omega (arith, b.1), omega (arith, b.2))
last n (x ∷ gs) g b = let s = last (suc n) gs g b.3 in (omega (arith, s.0), omega (arith, s.1))

pub sides-below : (n : ℕ) (t : List ℕ) (a k : ℕ) → k < a → Binary n (gates_at t a) → Sides (n + k) (gate_at t k)
sides-below n t zero k h b = absurd (not-suc-le-zero h)
sides-below n t (suc a) k h b = go (dec_lt k a) (λ q. sides-below n t a k q (front n (gates_at t a) (gate_at t a ∷ []) b))
  where
    go : Dec (k < a) → (k < a → Sides (n + k) (gate_at t k)) → Sides (n + k) (gate_at t k)
    go (yes q) f = f q
    go (no q) f =
        let e : a ≡ k = omega arith in
        let here : n + length (gates_at t a) ≡ n + a = omega (arith, length-firsts (gate_at t) a) in
        subst (λ (j : ℕ). Sides (n + j) (gate_at t j)) e
        (subst (λ (j : ℕ). Sides j (gate_at t a)) here (last n (gates_at t a) (gate_at t a) b))
