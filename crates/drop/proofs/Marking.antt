-- Marks: one more, those of a column, those of a walk.
use Prim.Native.Nat.{ℕ, suc, ◌+◌, ◌≤◌, ◌<◌}
use mathlib.Core.Path.{◌≡◌, refl, sym, ap, ◌∙◌, subst}
use mathlib.Core.Bool.{Bool, true, false, cond, ◌||◌}
use mathlib.Core.List.{List, [], ◌∷◌, ◌++◌}
use native.Mathlib.Numerals.{add-one}
use native.Mathlib.Omega.{arith}
use borrow.Author.Tests.{eqb-true, eqb-false}
use lib.Dec.{eqb}
use lib.ListN.{length, get_or, set}
use lib.Seq.{get_or-set_same, get_or-set_other}
use Rattle.plan.specs.Literals.{var_of}
use Rattle.plan.specs.Circuit.{Gate, has}
use Rattle.laws.proofs.Tables.{firsts, gate_at, gates_at}
use Rattle.plan.specs.Walk.{walk}
use Rattle.plan.specs.Drop.{sides_of}
use Rattle.drop.specs.Marks.{bit, Marked, var_at}

pub mark-one : (seen t : List ℕ) (v : ℕ) → v < length t → Marked seen t → Marked (v ∷ seen) (set t v 1)
mark-one seen t v h m u = go (eqb v u) refl
  where
    go : (b : Bool) → eqb v u ≡ b → get_or (set t v 1) u 0 ≡ bit (b || has u seen)
    go true e = subst (λ (x : ℕ). get_or (set t v 1) x 0 ≡ 1) (eqb-true v u e) (get_or-set_same t v 1 0 h)
    go false e = get_or-set_other t v u 1 0 (λ q. eqb-false v u e (sym q)) ∙ m u

-- lists of the same variables
pub marked-same : (xs ys t : List ℕ) → ((v : ℕ) → has v xs ≡ has v ys) → Marked xs t → Marked ys t
marked-same xs ys t e m v = m v ∙ ap bit (e v)

has_move : (v x : ℕ) (xs ys : List ℕ) → has v (x ∷ (xs ++ ys)) ≡ has v ((xs ++ (x ∷ [])) ++ ys)
has_move v x [] ys = refl
has_move v x (z ∷ xs) ys = swap (eqb x v) (eqb z v) (has v (xs ++ ys)) ∙ ap (λ (b : Bool). eqb z v || b) (has_move v x xs ys)
  where
    swap : (a b c : Bool) → (a || (b || c)) ≡ (b || (a || c))
    swap true true c = refl
    swap true false c = refl
    swap false b c = refl

pub column-more : (f : ℕ → ℕ) (i : ℕ) (seen t : List ℕ) → Marked (f i ∷ (firsts f i ++ seen)) t → Marked (firsts f (suc i) ++ seen) t
column-more f i seen t m = marked-same (f i ∷ (firsts f i ++ seen)) (firsts f (suc i) ++ seen) t (λ v. has_move v (f i) (firsts f i) seen) m

-- i rows of a column are marked
pub record Column (table : List ℕ) (stride column : ℕ) (t₀ t : List ℕ) (i : ℕ) : Type 0 where
  pub size : length t ≡ length t₀
  pub marked : (seen : List ℕ) → Marked seen t₀ → Marked (firsts (var_at table stride column) i ++ seen) t

pub column-turn : (table : List ℕ) (stride column : ℕ) (t₀ t t' : List ℕ) (i v : ℕ) → v ≡ var_at table stride column i
    → length t' ≡ length t
    → ((seen : List ℕ) → Marked seen t → Marked (v ∷ seen) t') → Column table stride column t₀ t i
    → Column table stride column t₀ t' (i + 1)
column-turn table stride column t₀ t t' i v e size f k = record {
  size = size ∙ k.size;
  marked = λ seen m.
      let g = var_at table stride column in
      subst (λ (j : ℕ). Marked (firsts g j ++ seen) t') (sym (add-one i))
      (column-more g i seen t' (subst (λ (x : ℕ). Marked (x ∷ (firsts g i ++ seen)) t') e (f (firsts g i ++ seen) (k.marked seen m))));
}

-- a walk in two parts
pub walk-append : (on : Gate → List ℕ) (xs ys : List Gate) (from : List ℕ) → walk on (xs ++ ys) from ≡ walk on xs (walk on ys from)
walk-append on [] ys from = refl
walk-append on (g ∷ xs) ys from = ap (λ (later : List ℕ). cond (has (var_of g.lhs) later) (on g ++ later) later) (walk-append on xs ys from)

-- what the loop over gates has come to: marks from which the gates before the k-th lead to where all of them lead
pub record Walking (gates : List ℕ) (a : ℕ) (t₀ t : List ℕ) (k : ℕ) : Type 0 where
  pub within : k ≤ a
  pub size : length t ≡ length t₀
  pub walked : (seen : List ℕ) → Marked seen t₀ → (come : List ℕ) × Marked come t
      × (walk sides_of (gates_at gates k) come ≡ walk sides_of (gates_at gates a) seen)

pub walking-more : (gates : List ℕ) (a : ℕ) (t₀ t t' : List ℕ) (k j : ℕ) → k ≡ suc j → Walking gates a t₀ t k → length t' ≡ length t
    → ((seen : List ℕ) → Marked seen t → Marked (walk sides_of (gate_at gates j ∷ []) seen) t') → Walking gates a t₀ t' j
walking-more gates a t₀ t t' k j e w size f = record {
  within = omega (arith, w.within);
  size = size ∙ w.size;
  walked = λ seen m.
      let s = w.walked seen m in (
        walk sides_of (gate_at gates j ∷ []) s.0,
        f s.0 s.1,
        sym (walk-append sides_of (gates_at gates j) (gate_at gates j ∷ []) s.0)
            ∙ ap (λ (n : ℕ). walk sides_of (gates_at gates n) s.0) (sym e) ∙ s.2,
      );
}

-- a gate that is not marked leads nowhere, another one to both sides
pub not-reached : (g : Gate) (seen t : List ℕ) → Marked seen t → get_or t (var_of g.lhs) 0 ≡ 0 → Marked (walk sides_of (g ∷ []) seen) t
not-reached g seen t m z =
    subst (λ (b : Bool). Marked (cond b (sides_of g ++ seen) seen) t) (sym (out (has (var_of g.lhs) seen) (sym (m (var_of g.lhs)) ∙ z))) m
  where
    out : (b : Bool) → bit b ≡ 0 → b ≡ false
    out true e = absurd (omega arith)
    out false e = refl

pub both-reached : (g : Gate) (seen t t' : List ℕ) → Marked seen t → (get_or t (var_of g.lhs) 0 ≡ 0 → ⊥)
    → Marked (var_of g.rhs0 ∷ var_of g.rhs1 ∷ seen) t' → Marked (walk sides_of (g ∷ []) seen) t'
both-reached g seen t t' m n m' =
    subst (λ (b : Bool). Marked (cond b (sides_of g ++ seen) seen) t') (sym (out (has (var_of g.lhs) seen) (m (var_of g.lhs)))) m'
  where
    out : (b : Bool) → get_or t (var_of g.lhs) 0 ≡ bit b → b ≡ true
    out true e = refl
    out false e = absurd (n e)
