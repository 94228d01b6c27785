-- Reduction's gates: where a variable was 0 or 1, what it became is the same; the retained gates are in binary order.
use Prim.Native.Nat.{ℕ, zero, suc, ◌+◌, ◌<◌, min, max}
use mathlib.Core.Path.{◌≡◌, refl, sym, ap, ◌∙◌, subst}
use mathlib.Core.Bool.{Bool, true, false}
use mathlib.Core.List.{List, [], ◌∷◌, ◌++◌}
use Rattle.std.specs.Prelude.{Option, Some, None}
use native.Mathlib.Omega.{arith}
use borrow.Author.Tests.{leb-true, leb-false}
use lib.Dec.{leb}
use lib.ListN.{length, get_or, length-append, get_or-append}
use lib.Seq.{get_or-append_seam}
use Rattle.plan.specs.Literals.{lit_of, var_of, sign_of}
use Rattle.plan.specs.Circuit.{Gate}
use Rattle.plan.specs.Convert.{gate_for}
use Rattle.plan.specs.Step.{Value, v0, and, lit}
use Rattle.plan.specs.Reduce.{Reduced, becomes, twin, stand_in, retain, reduce_gate, reduce_gates}
use Rattle.laws.proofs.Running.Refinement.{Le, le_of, le_trans, and-le, signed_le}
use Rattle.laws.proofs.Running.Signs.{lit-double, lit-signed, signed-half, larger-first}
use Rattle.laws.proofs.Running.Binary.{Binary, Holds}
use Rattle.laws.proofs.Running.StandIn.{All, Stands, stand_in-stands, twin-low, stand_in-low}

holds-front : (w : ℕ → Value) (ks js : List Gate) → Holds w (ks ++ js) → Holds w ks
holds-front w [] js h = tt
holds-front w (g ∷ ks) js h = (h.0, holds-front w ks js h.1)

holds-back : (w : ℕ → Value) (ks js : List Gate) → Holds w (ks ++ js) → Holds w js
holds-back w [] js h = h
holds-back w (g ∷ ks) js h = holds-back w ks js h.1

-- the gates retained so far stay
retain-keeps : (w : ℕ → Value) (r : Reduced) (a b : ℕ) (o : Option ℕ) → Holds w (retain r a b o).retained → Holds w r.retained
retain-keeps w r a b None h = holds-front w r.retained _ h
retain-keeps w r a b (Some l) h = h

keeps : (w : ℕ → Value) (r : Reduced) (gs : List Gate) → Holds w (reduce_gates r gs).retained → Holds w r.retained
keeps w r [] h = h
keeps w r (g ∷ gs) h =
    let a = becomes r.became g.rhs0 in
    let b = becomes r.became g.rhs1 in
    retain-keeps w r a b (stand_in a b r.retained) (keeps w (reduce_gate r a b) gs h)

-- what one gate becomes
abbrev newest : Reduced → Option ℕ → ℕ
newest r None = lit_of r.fresh
newest r (Some l) = l

retain-became : (r : Reduced) (a b : ℕ) (o : Option ℕ) → (retain r a b o).became ≡ r.became ++ (newest r o ∷ [])
retain-became r a b None = refl
retain-became r a b (Some l) = refl

newest-stands : (w : ℕ → Value) (zero_is : w 0 ≡ v0) (r : Reduced) (a b : ℕ) (o : Option ℕ) → All (Stands w zero_is a b) o
    → Holds w (retain r a b o).retained → Stands w zero_is a b (newest r o)
newest-stands w z r a b (Some l) f h = f
newest-stands w z r a b None f h = le_of (sym ((holds-back w r.retained (gate_for r.fresh a b ∷ []) h).0 ∙ larger-first w a b))

-- w: the values before; w': after; m: what the variables became
abbrev pub Refines : (ℕ → Value) → (ℕ → Value) → List ℕ → Type 0
Refines w w' m = (v : ℕ) → v < length m → Le (w v) (lit w' (get_or m v 0))

pub becomes-le : (w w' : ℕ → Value) (m : List ℕ) → Refines w w' m → (l : ℕ) → var_of l < length m → Le (lit w l) (lit w' (becomes m l))
becomes-le w w' m h l b =
    subst (λ (t : Value). Le (lit w l) t) (sym (lit-signed w' (sign_of l) (get_or m (var_of l) 0)))
    (signed_le (sign_of l) (w (var_of l)) (lit w' (get_or m (var_of l) 0)) (h (var_of l) b))

refines-more : (w w' : ℕ → Value) (m : List ℕ) (l : ℕ) → Refines w w' m → Le (w (length m)) (lit w' l) → Refines w w' (m ++ (l ∷ []))
refines-more w w' m l h k v b = go (leb (length m) v) refl
  where
    go : (t : Bool) → leb (length m) v ≡ t → Le (w v) (lit w' (get_or (m ++ (l ∷ [])) v 0))
    go false p = rw (get_or-append m (l ∷ []) 0 v (leb-false (length m) v p)) (h v (leb-false (length m) v p))
    go true p =
        let e : length m ≡ v = omega (arith, leb-true (length m) v p, simp length-append at b) in
        subst (λ (u : ℕ). Le (w u) (lit w' (get_or (m ++ (l ∷ [])) u 0))) e (rw (get_or-append_seam m l [] 0) k)

length-retain : (r : Reduced) (a b : ℕ) (o : Option ℕ) → length (retain r a b o).became ≡ suc (length r.became)
length-retain r a b o = ap length (retain-became r a b o) ∙ length-append r.became (newest r o ∷ []) ∙ omega arith

pub refines-all : (w w' : ℕ → Value) → w' 0 ≡ v0 → (r : Reduced) (gs : List Gate) → Binary (length r.became) gs → Holds w gs
    → Holds w' (reduce_gates r gs).retained → Refines w w' r.became → Refines w w' (reduce_gates r gs).became
refines-all w w' z r [] b h k f = f
refines-all w w' z r (g ∷ gs) b h k f =
    refines-all w w' z (reduce_gate r a₀ a₁) gs (subst (λ (n : ℕ). Binary n gs) (sym (length-retain r a₀ a₁ o)) b.3) h.1 k
    (subst (λ (m : List ℕ). Refines w w' m) (sym (retain-became r a₀ a₁ o)) (refines-more w w' r.became (newest r o) f this))
  where
    a₀ : ℕ
    a₀ = becomes r.became g.rhs0

    a₁ : ℕ
    a₁ = becomes r.became g.rhs1

    o : Option ℕ
    o = stand_in a₀ a₁ r.retained

    held : Holds w' (reduce_gate r a₀ a₁).retained
    held = keeps w' (reduce_gate r a₀ a₁) gs k

    eqn : w (length r.became) ≡ and (lit w g.rhs0) (lit w g.rhs1)
    eqn = sym (lit-double w (length r.became)) ∙ ap (lit w) (sym b.0) ∙ h.0

    this : Le (w (length r.became)) (lit w' (newest r o))
    this =
        subst (λ (t : Value). Le t (lit w' (newest r o))) (sym eqn)
        (le_trans (and (lit w g.rhs0) (lit w g.rhs1)) (and (lit w' a₀) (lit w' a₁)) (lit w' (newest r o))
        (and-le (lit w g.rhs0) (lit w' a₀) (lit w g.rhs1) (lit w' a₁) (becomes-le w w' r.became f g.rhs0 b.1)
        (becomes-le w w' r.became f g.rhs1 b.2))
        (newest-stands w' z r a₀ a₁ o (stand_in-stands w' z a₀ a₁ r.retained (retain-keeps w' r a₀ a₁ o held)) held))

-- the retained gates are in binary order from n, and what variables became is of numbers in use
pub record Ok (n : ℕ) (r : Reduced) : Type 0 where
  pub some-var : 0 < n
  pub order : Binary n r.retained
  pub count : r.fresh ≡ n + length r.retained
  pub low : (v : ℕ) → var_of (get_or r.became v 0) < r.fresh

binary-more : (n : ℕ) (ks : List Gate) (g : Gate) → Binary n ks → g.lhs ≡ lit_of (n + length ks) → var_of g.rhs0 < n + length ks
    → var_of g.rhs1 < n + length ks → Binary n (ks ++ (g ∷ []))
binary-more n [] g b e h k = (e ∙ omega arith, omega arith, omega arith, tt)
binary-more n (j ∷ ks) g b e h k = (b.0, b.1, b.2, binary-more (suc n) ks g b.3 (e ∙ omega arith) (omega arith) (omega arith))

low-more : (f : ℕ) (m : List ℕ) (l : ℕ) → var_of l < f → ((v : ℕ) → var_of (get_or m v 0) < f) → (v : ℕ) → var_of (get_or (m ++ (l ∷ [])) v 0) < f
low-more f [] l h k zero = h
low-more f [] l h k (suc v) = k 0
low-more f (x ∷ m) l h k zero = k 0
low-more f (x ∷ m) l h k (suc v) = low-more f m l h (λ u. k (suc u)) v

ok-retain : (n : ℕ) (r : Reduced) (a b : ℕ) (o : Option ℕ) → Ok n r → var_of a < r.fresh → var_of b < r.fresh
    → All (λ l. var_of l < r.fresh) o → Ok n (retain r a b o)
ok-retain n r a b (Some l) k p q t =
    record { some-var = k.some-var; order = k.order; count = k.count; low = low-more r.fresh r.became l t k.low }
ok-retain n r a b None k p q t = record {
  some-var = k.some-var;
  order = binary-more n r.retained (gate_for r.fresh a b) k.order (omega (arith, k.count)) (omega (arith, k.count))
      (omega (arith, k.count));
  count = omega (arith, k.count, length-append r.retained (gate_for r.fresh a b ∷ []));
  low = low-more (suc r.fresh) r.became (lit_of r.fresh) (omega arith) (λ v. omega (arith, k.low v));
}

pub ok-all : (n : ℕ) (r : Reduced) (gs : List Gate) → Ok n r → Ok n (reduce_gates r gs)
ok-all n r [] k = k
ok-all n r (g ∷ gs) k =
    let a = becomes r.became g.rhs0 in
    let b = becomes r.became g.rhs1 in
    let p : var_of a < r.fresh = rw (signed-half (sign_of g.rhs0) (get_or r.became (var_of g.rhs0) 0)) (k.low (var_of g.rhs0)) in
    let q : var_of b < r.fresh = rw (signed-half (sign_of g.rhs1) (get_or r.became (var_of g.rhs1) 0)) (k.low (var_of g.rhs1)) in
    let t : All (λ l. var_of l < r.fresh) (twin (max a b) (min a b) r.retained)
    = rw k.count (twin-low n (max a b) (min a b) r.retained k.order) in
    ok-all n (reduce_gate r a b) gs (ok-retain n r a b (stand_in a b r.retained) k p q
    (stand_in-low r.fresh a b r.retained (omega (arith, k.count, k.some-var)) p q t))

pub length-all : (r : Reduced) (gs : List Gate) → length (reduce_gates r gs).became ≡ length r.became + length gs
length-all r [] = omega arith
length-all r (g ∷ gs) =
    let a = becomes r.became g.rhs0 in
    let b = becomes r.became g.rhs1 in
    length-all (reduce_gate r a b) gs ∙ omega (arith, length-retain r a b (stand_in a b r.retained))
