-- Gates at their places in a table: what holds of each gate of a list, the gate of a variable, and one row changed.
use Prim.Native.Nat.{ℕ, zero, suc, ◌+◌, ◌*◌, ◌≤◌, ◌<◌, min, max}
use mathlib.Core.Path.{◌≡◌, refl, sym, ap, ap₂, ◌∙◌, subst}
use mathlib.Core.List.{List, [], ◌∷◌, ◌++◌}
use Rattle.std.specs.Prelude.{Some}
use native.Mathlib.Omega.{arith}
use native.Mathlib.Nat.{not-suc-le-zero}
use native.Mathlib.Decide.{dec_lt}
use borrow.Author.Tests.{eq-eqb, ne_eqb}
use lib.ListN.{length, get_or, set, length-set}
use lib.Seq.{get_or-set_same, get_or-set_other}
use Rattle.plan.specs.Literals.{lit_of, var_of, sign_of}
use Rattle.plan.specs.Circuit.{Gate}
use Rattle.plan.specs.Depends.{find}
use Rattle.plan.specs.Outcome.{put}
use Rattle.laws.proofs.Put.{put_one, put-put}
use Rattle.laws.proofs.Tables.{firsts, length-firsts, gate_at, gates_at}
use Rattle.laws.proofs.Running.Found.{AllG, all_map}
use Rattle.laws.proofs.Running.Binary.{Binary}
use Rattle.laws.proofs.Walks.Places.{left_at}
use Rattle.plan.specs.Rewire.{rewired_gates}

all-front : (P : Gate → Type 0) (gs hs : List Gate) → AllG P (gs ++ hs) → AllG P gs
all-front P [] hs a = tt
all-front P (g ∷ gs) hs a = (a.0, all-front P gs hs a.1)

all-last : (P : Gate → Type 0) (gs : List Gate) (g : Gate) → AllG P (gs ++ (g ∷ [])) → P g
all-last P [] g a = a.0
all-last P (x ∷ gs) g a = all-last P gs g a.1

pub all-places : (P : Gate → Type 0) (at : ℕ → Gate) (n : ℕ) → AllG P (firsts at n) → (i : ℕ) → i < n → P (at i)
all-places P at zero a i h = absurd (not-suc-le-zero h)
all-places P at (suc n) a i h = go (dec_lt i n) (all-places P at n (all-front P (firsts at n) (at n ∷ []) a) i)
  where
    go : Dec (i < n) → (i < n → P (at i)) → P (at i)
    go (yes q) f = f q
    go (no q) f = let e : n ≡ i = omega arith in subst (λ (j : ℕ). P (at j)) e (all-last P (firsts at n) (at n) a)

-- in binary order each gate is found by its own left side
abbrev Own : ℕ → List Gate → Gate → Type 0
Own n gs g = (n ≤ var_of g.lhs) × (find (var_of g.lhs) gs ≡ Some g)

own-found : (n : ℕ) (gs : List Gate) → Binary n gs → AllG (Own n gs) gs
own-found n [] b = tt
own-found n (x ∷ gs) b = (
  (omega (arith, b.0), rw (eq-eqb (var_of x.lhs) (var_of x.lhs) refl)),
  all_map (Own (suc n) gs) (Own n (x ∷ gs))
      (λ g p. (omega (arith, p.0), rw (ne_eqb (var_of x.lhs) (var_of g.lhs) (λ e. omega (arith, e, p.0, b.0))) p.1))
      gs (own-found (suc n) gs b.3),
)

pub found_at : (n : ℕ) (t : List ℕ) (a k : ℕ) → k < a → Binary n (gates_at t a) → find (n + k) (gates_at t a) ≡ Some (gate_at t k)
found_at n t a k h b =
    ap (λ (v : ℕ). find v (gates_at t a)) (sym (left_at n t a k h b))
    ∙ (all-places (Own n (gates_at t a)) (gate_at t) a (own-found n (gates_at t a) b) k h).1

-- a gate's left side is twice its variable
even-lefts : (n : ℕ) (gs : List Gate) → Binary n gs → AllG (λ g. sign_of g.lhs ≡ 0) gs
even-lefts n [] b = tt
even-lefts n (g ∷ gs) b = (omega (arith, b.0), even-lefts (suc n) gs b.3)

pub left-side : (n : ℕ) (t : List ℕ) (a k : ℕ) → k < a → Binary n (gates_at t a) → (gate_at t k).lhs ≡ lit_of (n + k)
left-side n t a k h b =
    omega (arith, left_at n t a k h b, all-places (λ g. sign_of g.lhs ≡ 0) (gate_at t) a (even-lefts n (gates_at t a) b) k h)

-- the right sides of row k are set: gate k is rewired, every other stays
abbrev pub set_sides : List ℕ → ℕ → ℕ → ℕ → List ℕ
set_sides t k x y = set (set t (3 * k + 1) x) (3 * k + 2) y

module _ (t : List ℕ) (k x y : ℕ) (room : 3 * k + 3 ≤ length t) where
  other : (q : ℕ) → (q ≡ 3 * k + 1 → ⊥) → (q ≡ 3 * k + 2 → ⊥) → get_or (set_sides t k x y) q 0 ≡ get_or t q 0
  other q n m = get_or-set_other (set t (3 * k + 1) x) (3 * k + 2) q y 0 m ∙ get_or-set_other t (3 * k + 1) q x 0 n

  pub other-gate : (j : ℕ) → (j ≡ k → ⊥) → gate_at (set_sides t k x y) j ≡ gate_at t j
  other-gate j n = λ i. record {
    lhs = other (3 * j) (λ e. omega arith) (λ e. omega arith) i;
    rhs0 = other (3 * j + 1) (λ e. n (omega arith)) (λ e. omega arith) i;
    rhs1 = other (3 * j + 2) (λ e. omega arith) (λ e. n (omega arith)) i;
  }

  pub this-gate : gate_at (set_sides t k x y) k ≡ record { lhs = (gate_at t k).lhs; rhs0 = x; rhs1 = y }
  this-gate = λ i. record {
    lhs = other (3 * k) (λ e. omega arith) (λ e. omega arith) i;
    rhs0 = (get_or-set_other (set t (3 * k + 1) x) (3 * k + 2) (3 * k + 1) y 0 (λ e. omega arith) ∙ get_or-set_same t (3 * k + 1) x 0 (omega arith)) i;
    rhs1 = get_or-set_same (set t (3 * k + 1) x) (3 * k + 2) y 0 (omega (arith, length-set t (3 * k + 1) x)) i;
  }

  firsts_same : (a : ℕ) → a ≤ k → gates_at (set_sides t k x y) a ≡ gates_at t a
  firsts_same zero h = refl
  firsts_same (suc a) h =
      ap₂ (λ (l : List Gate) (g : Gate). l ++ (g ∷ [])) (firsts_same a (omega arith)) (other-gate a (λ e. omega arith))

rewired-past : (k a b : ℕ) (gs hs : List Gate) → k < length gs → rewired_gates k a b (gs ++ hs) ≡ rewired_gates k a b gs ++ hs
rewired-past k a b [] hs h = absurd (not-suc-le-zero h)
rewired-past zero a b (g ∷ gs) hs h = refl
rewired-past (suc k) a b (g ∷ gs) hs h = ap (λ (l : List Gate). g ∷ l) (rewired-past k a b gs hs (omega arith))

rewired-at : (k a b : ℕ) (gs : List Gate) (g : Gate) → k ≡ length gs
    → rewired_gates k a b (gs ++ (g ∷ [])) ≡ gs ++ (record { lhs = g.lhs; rhs0 = max a b; rhs1 = min a b } ∷ [])
rewired-at zero a b [] g e = refl
rewired-at zero a b (x ∷ gs) g e = absurd (omega arith)
rewired-at (suc k) a b [] g e = absurd (omega arith)
rewired-at (suc k) a b (x ∷ gs) g e = ap (λ (l : List Gate). x ∷ l) (rewired-at k a b gs g (omega arith))

-- the table with the row changed holds the edited gates
pub table-rewired : (t : List ℕ) (k a b n : ℕ) → 3 * k + 3 ≤ length t → k < n
    → gates_at (set_sides t k (max a b) (min a b)) n ≡ rewired_gates k a b (gates_at t n)
table-rewired t k a b zero room h = absurd (not-suc-le-zero h)
table-rewired t k a b (suc n) room h = go (dec_lt k n) (table-rewired t k a b n room)
  where
    go : Dec (k < n) → (k < n → gates_at (set_sides t k (max a b) (min a b)) n ≡ rewired_gates k a b (gates_at t n))
        → gates_at (set_sides t k (max a b) (min a b)) (suc n) ≡ rewired_gates k a b (gates_at t (suc n))
    go (yes q) f =
        ap₂ (λ (l : List Gate) (g : Gate). l ++ (g ∷ [])) (f q) (other-gate t k (max a b) (min a b) room n (λ e. omega arith))
        ∙ sym (rewired-past k a b (gates_at t n) (gate_at t n ∷ []) (omega (arith, length-firsts (gate_at t) n)))
    go (no q) f =
        let e : k ≡ n = omega arith in
        ap₂ (λ (l : List Gate) (g : Gate). l ++ (g ∷ [])) (firsts_same t k (max a b) (min a b) room n (omega arith))
        (subst (λ (j : ℕ). gate_at (set_sides t k (max a b) (min a b)) j ≡ record { lhs = (gate_at t j).lhs; rhs0 = max a b; rhs1 = min a b }) e
        (this-gate t k (max a b) (min a b) room))
        ∙ sym (rewired-at k a b (gates_at t n) (gate_at t n) (e ∙ sym (length-firsts (gate_at t) n)))

-- the two stores put both words
pub two-stores : (t : List ℕ) (k x y : ℕ) → 3 * k + 3 ≤ length t → set_sides t k x y ≡ put t (3 * k + 1) (x ∷ y ∷ [])
two-stores t k x y room =
    let next : 3 * k + 2 ≡ 3 * k + 1 + 1 = omega arith in
    put_one (set t (3 * k + 1) x) (3 * k + 2) y (omega (arith, length-set t (3 * k + 1) x))
    ∙ ap₂ (λ (l : List ℕ) (at : ℕ). put l at (y ∷ [])) (put_one t (3 * k + 1) x (omega arith)) next
    ∙ put-put t (3 * k + 1) (x ∷ []) (y ∷ []) (omega arith)
