-- Gates at their places in a table: each gate's own variable.
use Prim.Native.Nat.{ℕ, zero, suc, ◌+◌, ◌<◌}
use mathlib.Core.Path.{◌≡◌, ◌∙◌, subst}
use mathlib.Core.List.{List, [], ◌∷◌, ◌++◌}
use native.Mathlib.Omega.{arith}
use native.Mathlib.Nat.{not-suc-le-zero}
use native.Mathlib.Decide.{dec_lt}
use lib.ListN.{length}
use Rattle.plan.specs.Literals.{var_of}
use Rattle.plan.specs.Circuit.{Gate}
use Rattle.laws.proofs.Tables.{length-firsts, gate_at, gates_at}
use Rattle.laws.proofs.Running.Binary.{Binary}

front : (n : ℕ) (gs hs : List Gate) → Binary n (gs ++ hs) → Binary n gs
front n [] hs b = tt
front n (x ∷ gs) hs b = (b.0, b.1, b.2, front (suc n) gs hs b.3)

last : (n : ℕ) (gs : List Gate) (g : Gate) → Binary n (gs ++ (g ∷ [])) → var_of g.lhs ≡ n + length gs
last n [] g b = omega (arith, b.0)
last n (x ∷ gs) g b = last (suc n) gs g b.3 ∙ omega arith

-- gate k's variable is its own
pub left_at : (n : ℕ) (t : List ℕ) (a k : ℕ) → k < a → Binary n (gates_at t a) → var_of (gate_at t k).lhs ≡ n + k
left_at n t zero k h b = absurd (not-suc-le-zero h)
left_at n t (suc a) k h b = go (dec_lt k a) (λ q. left_at n t a k q (front n (gates_at t a) (gate_at t a ∷ []) b))
  where
    go : Dec (k < a) → (k < a → var_of (gate_at t k).lhs ≡ n + k) → var_of (gate_at t k).lhs ≡ n + k
    go (yes q) f = f q
    go (no q) f =
        let e : a ≡ k = omega arith in
        subst (λ (j : ℕ). var_of (gate_at t j).lhs ≡ n + j) e
        (last n (gates_at t a) (gate_at t a) b ∙ omega (arith, length-firsts (gate_at t) a))
