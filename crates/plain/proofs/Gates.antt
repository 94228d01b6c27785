-- Gates in binary order: the gate of each variable past the leaves is found at its place in the table.
use Prim.Native.Nat.{ℕ, zero, suc, ◌+◌, ◌<◌}
use mathlib.Core.Path.{◌≡◌, subst}
use mathlib.Core.Bool.{Bool, true, false, cond}
use mathlib.Core.List.{List, [], ◌∷◌, ◌++◌}
use Rattle.std.specs.Prelude.{Some}
use native.Mathlib.Nat.{not-suc-le-zero}
use native.Mathlib.Decide.{dec_lt}
use native.Mathlib.Omega.{arith}
use borrow.Author.Tests.{eq-eqb, ne_eqb}
use lib.Dec.{eqb}
use lib.ListN.{length}
use Rattle.plan.specs.Literals.{var_of}
use Rattle.plan.specs.Circuit.{Gate}
use Rattle.plan.specs.Depends.{find}
use Rattle.laws.proofs.Tables.{gate_at, gates_at, length-firsts}
use Rattle.laws.proofs.Running.Binary.{Binary}

front : (n : ℕ) (gs hs : List Gate) → Binary n (gs ++ hs) → Binary n gs
front n [] hs b = tt
front n (x ∷ gs) hs b = (b.0, b.1, b.2, front (suc n) gs hs b.3)

find-front : (v : ℕ) (gs hs : List Gate) (g : Gate) → find v gs ≡ Some g → find v (gs ++ hs) ≡ Some g
find-front v [] hs g e = let z : ◌≡◌ {A = ℕ} 0 1 = cc in absurd (omega arith)
find-front v (x ∷ gs) hs g e = go (eqb (var_of x.lhs) v) (find-front v gs hs g) e
  where
    go : (t : Bool) → (find v gs ≡ Some g → find v (gs ++ hs) ≡ Some g) → cond t (Some x) (find v gs) ≡ Some g
        → cond t (Some x) (find v (gs ++ hs)) ≡ Some g
    go true f q = q
    go false f q = f q

find-last : (n : ℕ) (gs : List Gate) (g : Gate) → Binary n (gs ++ (g ∷ [])) → find (n + length gs) (gs ++ (g ∷ [])) ≡ Some g
find-last n [] g b = rw (eq-eqb (var_of g.lhs) (n + 0) (omega (arith, b.0)))
find-last n (x ∷ gs) g b =
    let p : suc n + length gs ≡ n + suc (length gs) = omega arith in
    rw (ne_eqb (var_of x.lhs) (n + suc (length gs)) (λ q. omega (arith, q, b.0)))
    (subst (λ (k : ℕ). find k (gs ++ (g ∷ [])) ≡ Some g) p (find-last (suc n) gs g b.3))

pub find_at : (n : ℕ) (t : List ℕ) (a k : ℕ) → k < a → Binary n (gates_at t a) → find (n + k) (gates_at t a) ≡ Some (gate_at t k)
find_at n t zero k h b = absurd (not-suc-le-zero h)
find_at n t (suc a) k h b = go (dec_lt k a) (λ q. find_at n t a k q (front n (gates_at t a) (gate_at t a ∷ []) b))
  where
    go : Dec (k < a) → (k < a → find (n + k) (gates_at t a) ≡ Some (gate_at t k)) → find (n + k) (gates_at t (suc a)) ≡ Some (gate_at t k)
    go (yes q) f = find-front (n + k) (gates_at t a) (gate_at t a ∷ []) (gate_at t k) (f q)
    go (no q) f =
        let e : a ≡ k = omega arith in
        let here : n + length (gates_at t a) ≡ n + a = omega (arith, length-firsts (gate_at t) a) in
        subst (λ (j : ℕ). find (n + j) (gates_at t (suc a)) ≡ Some (gate_at t j)) e
        (subst (λ (j : ℕ). find j (gates_at t (suc a)) ≡ Some (gate_at t a)) here (find-last n (gates_at t a) (gate_at t a) b))
