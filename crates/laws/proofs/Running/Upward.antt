-- Variables and literals in a row: members, places, the values of leaves.
use Prim.Native.Nat.{ℕ, zero, suc, ◌+◌, ◌≤◌, ◌<◌}
use mathlib.Core.Path.{◌≡◌, refl, sym, ap, ap₂, ◌∙◌}
use mathlib.Core.Bool.{Bool, true, false, ◌||◌}
use mathlib.Core.List.{List, [], ◌∷◌, ◌++◌}
use native.Mathlib.Omega.{arith}
use native.Mathlib.Nat.{not-suc-le-zero}
use borrow.Author.Tests.{eqb-false, eq-eqb, ne_eqb, leb-true, leb-false}
use lib.Dec.{eqb, leb}
use lib.ListN.{length, get_or, get_or-eq_default}
use Rattle.plan.specs.Literals.{lit_of, var_of}
use Rattle.plan.specs.Circuit.{Circuit, vars, current_vars, has, leaves, index}
use Rattle.plan.specs.Binary.{lits_from}
use Rattle.plan.specs.Step.{Value, v0, vx, leaf_value}
use Rattle.laws.proofs.Reading.Runs.{up_from, up-append}

pub index-up : (u n v : ℕ) → v < n → index (u + v) (up_from u n) ≡ v
index-up u zero v h = absurd (not-suc-le-zero h)
index-up u (suc n) zero h = rw (eq-eqb u (u + 0) (omega arith))
index-up u (suc n) (suc v) h =
    let p : u + suc v ≡ suc u + v = omega arith in
    rw (ne_eqb u (u + suc v) (λ e. omega arith))
    (ap suc (ap (λ (k : ℕ). index k (up_from (suc u) n)) p ∙ index-up (suc u) n v (omega arith)))

index-up-past : (u n v : ℕ) → u + n ≤ v → index v (up_from u n) ≡ n
index-up-past u zero v h = refl
index-up-past u (suc n) v h = rw (ne_eqb u v (λ e. omega arith)) (ap suc (index-up-past (suc u) n v (omega arith)))

pub has-up : (u n v : ℕ) → u ≤ v → v < u + n → has v (up_from u n) ≡ true
has-up u zero v h k = absurd (omega arith)
has-up u (suc n) v h k = go (eqb u v) refl (λ q. has-up (suc u) n v q (omega arith))
  where
    go : (t : Bool) → eqb u v ≡ t → (suc u ≤ v → has v (up_from (suc u) n) ≡ true) → (t || has v (up_from (suc u) n)) ≡ true
    go true e f = refl
    go false e f = f (omega (arith, eqb-false u v e))

pub up-snoc : (n : ℕ) → up_from 0 n ++ (n ∷ []) ≡ up_from 0 (suc n)
up-snoc n =
    let p : n ≡ 0 + n = omega arith in
    let q : n + 1 ≡ suc n = omega arith in
    ap (λ (k : ℕ). up_from 0 n ++ (k ∷ [])) p ∙ sym (up-append 0 n 1) ∙ ap (up_from 0) q

pub lits-at : (u n v : ℕ) → v < n → get_or (lits_from u n) v 0 ≡ lit_of (u + v)
lits-at u zero v h = absurd (not-suc-le-zero h)
lits-at u (suc n) zero h = omega arith
lits-at u (suc n) (suc v) h = lits-at (suc u) n v (omega arith) ∙ omega arith

pub lits-low : (u n f : ℕ) → 0 < f → u + n ≤ f → (v : ℕ) → var_of (get_or (lits_from u n) v 0) < f
lits-low u zero f z h v = z
lits-low u (suc n) f z h zero = omega arith
lits-low u (suc n) f z h (suc v) = lits-low (suc u) n f z (omega arith) v

-- leaves that stand in a row from variable 1 on
pub leaves-up : (c : Circuit) (i l : ℕ) → vars c.inputs ≡ up_from 1 i → current_vars c.latches ≡ up_from (1 + i) l
    → leaves c ≡ up_from 0 (1 + i + l)
leaves-up c i l p q =
    let e : suc (i + l) ≡ 1 + i + l = omega arith in
    ap₂ (λ (s t : List ℕ). 0 ∷ (s ++ t)) p q ∙ ap (λ (t : List ℕ). 0 ∷ t) (sym (up-append 1 i l)) ∙ ap (up_from 0) e

-- the values given to the constant, the inputs and the latches
abbrev pub given : List Value → List Value → List Value
given s i = v0 ∷ (i ++ s)

-- leaves in a row have the values of their places
pub leaf-at : (c : Circuit) (n : ℕ) (s i : List Value) → leaves c ≡ up_from 0 n → length (given s i) ≡ n → (v : ℕ)
    → leaf_value c s i v ≡ get_or (given s i) v vx
leaf-at c n s i p l v = ap (λ (xs : List ℕ). get_or (given s i) (index v xs) vx) p ∙ go (leb n v) refl
  where
    go : (t : Bool) → leb n v ≡ t → get_or (given s i) (index v (up_from 0 n)) vx ≡ get_or (given s i) v vx
    go false e =
        let q : 0 + v ≡ v = omega arith in
        ap (λ (k : ℕ). get_or (given s i) k vx) (ap (λ (k : ℕ). index k (up_from 0 n)) (sym q) ∙ index-up 0 n v (leb-false n v e))
    go true e =
        let h : n ≤ v = leb-true n v e in
        ap (λ (k : ℕ). get_or (given s i) k vx) (index-up-past 0 n v (omega arith))
        ∙ get_or-eq_default (given s i) vx {n = n} (omega arith) ∙ sym (get_or-eq_default (given s i) vx {n = v} (omega arith))
