-- A variable's word, and which gates are ready.
use Prim.Native.Nat.{ℕ, zero, suc, ◌<◌, ◌≤◌}
use mathlib.Core.Path.{◌≡◌, refl, sym, ap, ap₂, ◌∙◌, subst}
use mathlib.Core.Bool.{Bool, true, false, not, cond, ◌&&◌, ◌||◌, false≢true}
use mathlib.Core.List.{List, [], ◌∷◌}
use native.Mathlib.Nat.{not-suc-le-zero}
use native.Mathlib.Omega.{arith}
use borrow.Author.Tests.{eq-eqb, ne_eqb, eqb-true, eqb-false, lt-ltb, le-ltb, not-true, not-false}
use lib.Dec.{eqb}
use lib.ListN.{length, get_or, set, take}
use lib.Seq.{get_or-set_same, get_or-set_other, get_or-take, ext_get_or}
use Rattle.plan.specs.Literals.{var_of}
use Rattle.plan.specs.Circuit.{Gate}
use Rattle.laws.proofs.Reading.Common.{and_left}
use Rattle.judge.specs.order.Numbers.{numbered_t, ready_t, InTable}
use Rattle.judge.specs.order.Waiting.{shown, clean, numbered_v, ready_v}

pub shown-low : (w : ℕ) → w < 2147483648 → shown w ≡ w
unfolding shown
shown-low w h = ap (λ (b : Bool). cond b w 0) (lt-ltb w 2147483648 h)

pub shown-high : (w : ℕ) → 2147483648 ≤ w → shown w ≡ 0
unfolding shown
shown-high w h = ap (λ (b : Bool). cond b w 0) (le-ltb w 2147483648 h)

-- the numbers
pub clean_at : (n : ℕ) (t : List ℕ) (v : ℕ) → v < n → get_or (clean n t) v 0 ≡ shown (get_or t v 0)
clean_at zero t v h = absurd (not-suc-le-zero h)
clean_at (suc n) [] v h = sym (shown-low 0 (omega arith))
clean_at (suc n) (w ∷ t) zero h = refl
clean_at (suc n) (w ∷ t) (suc v) h = clean_at n t v (omega arith)

pub clean-length : (n : ℕ) (t : List ℕ) → n ≤ length t → length (clean n t) ≡ n
clean-length zero t h = refl
clean-length (suc n) [] h = absurd (not-suc-le-zero h)
clean-length (suc n) (w ∷ t) h = ap suc (clean-length n t (omega arith))

pub clean-set : (n : ℕ) (t : List ℕ) (v x : ℕ) → v < n → clean n (set t v x) ≡ set (clean n t) v (shown x)
clean-set zero t v x h = absurd (not-suc-le-zero h)
clean-set (suc n) [] v x h = refl
clean-set (suc n) (w ∷ t) zero x h = refl
clean-set (suc n) (w ∷ t) (suc v) x h = ap (λ (l : List ℕ). shown w ∷ l) (clean-set n t v x (omega arith))

pub clean-same : (n : ℕ) (t u : List ℕ) → n ≤ length t → n ≤ length u → ((v : ℕ) → v < n → shown (get_or u v 0) ≡ shown (get_or t v 0))
    → clean n u ≡ clean n t
clean-same n t u ht hu e =
    ext_get_or 0 (clean n u) (clean n t) (clean-length n u hu ∙ sym (clean-length n t ht))
    (λ i h. let k : i < n = omega (arith, clean-length n u hu) in clean_at n u i k ∙ e i k ∙ sym (clean_at n t i k))

-- numbered
pub numbered-zero : (t : List ℕ) (v : ℕ) → v ≡ 0 → numbered_v t v ≡ true
unfolding numbered_v
numbered-zero t v e = ap (λ (b : Bool). b || not (eqb (shown (get_or t v 0)) 0)) (eq-eqb v 0 e)

numbered-any : (t : List ℕ) (v : ℕ) → (v ≡ 0 → ⊥) → numbered_v t v ≡ not (eqb (shown (get_or t v 0)) 0)
unfolding numbered_v
numbered-any t v n = ap (λ (b : Bool). b || not (eqb (shown (get_or t v 0)) 0)) (ne_eqb v 0 n)

pub numbered-low : (t : List ℕ) (v : ℕ) → (v ≡ 0 → ⊥) → get_or t v 0 < 2147483648 → numbered_v t v ≡ not (eqb (get_or t v 0) 0)
numbered-low t v n h = numbered-any t v n ∙ ap (λ (w : ℕ). not (eqb w 0)) (shown-low (get_or t v 0) h)

pub numbered-high : (t : List ℕ) (v : ℕ) → (v ≡ 0 → ⊥) → 2147483648 ≤ get_or t v 0 → numbered_v t v ≡ false
numbered-high t v n h = numbered-any t v n ∙ ap (λ (w : ℕ). not (eqb w 0)) (shown-high (get_or t v 0) h)

pub numbered-by : (t u : List ℕ) (v : ℕ) → shown (get_or u v 0) ≡ shown (get_or t v 0) → numbered_v u v ≡ numbered_v t v
unfolding numbered_v
numbered-by t u v e = ap (λ (w : ℕ). eqb v 0 || not (eqb w 0)) e

-- a variable without a number is not the constant, and shows 0
pub unnumbered : (t : List ℕ) (v : ℕ) → numbered_v t v ≡ false → (v ≡ 0 → ⊥) × (shown (get_or t v 0) ≡ 0)
unnumbered t v h = (apart, eqb-true (shown (get_or t v 0)) 0 (not-false (eqb (shown (get_or t v 0)) 0) (sym (numbered-any t v apart) ∙ h)))
  where
    apart : v ≡ 0 → ⊥
    apart e = false≢true (sym h ∙ numbered-zero t v e)

pub numbered-clean : (n : ℕ) (t : List ℕ) (v : ℕ) → v < n → numbered_t (clean n t) v ≡ numbered_v t v
unfolding numbered_t numbered_v
numbered-clean n t v h = ap (λ (w : ℕ). eqb v 0 || not (eqb w 0)) (clean_at n t v h)

-- a table of numbers is a table of words that show them
pub numbered-take : (t : List ℕ) (n v : ℕ) → v < n → get_or t v 0 < 2147483648 → numbered_t (take n t) v ≡ numbered_v t v
unfolding numbered_t numbered_v
numbered-take t n v h small = ap (λ (w : ℕ). eqb v 0 || not (eqb w 0)) (get_or-take n t v 0 h ∙ sym (shown-low (get_or t v 0) small))

-- ready
pub and-false : (b : Bool) → (b && false) ≡ false
and-false true = refl
and-false false = refl

pub ready-clean : (n : ℕ) (t : List ℕ) (g : Gate) → InTable n g → ready_t (clean n t) g ≡ ready_v t g
unfolding ready_t ready_v
ready-clean n t g k =
    ap₂ (λ (x y : Bool). not x && y) (numbered-clean n t (var_of g.lhs) k.0)
    (ap₂ (λ (x y : Bool). x && y) (numbered-clean n t (var_of g.rhs0) k.1) (numbered-clean n t (var_of g.rhs1) k.2))

pub ready-left : (t : List ℕ) (g : Gate) → ready_v t g ≡ true → numbered_v t (var_of g.lhs) ≡ false
unfolding ready_v
ready-left t g h =
    not-true (numbered_v t (var_of g.lhs))
    (and_left (not (numbered_v t (var_of g.lhs))) (numbered_v t (var_of g.rhs0) && numbered_v t (var_of g.rhs1)) h)

-- after a number is given
module _ (t : List ℕ) (v x : ℕ) (fits : v < length t) (pos : 0 < x) (small : x < 2147483648) where
  pub given-here : numbered_v (set t v x) v ≡ true
  given-here = go (eqb v 0) refl
    where
      go : (b : Bool) → eqb v 0 ≡ b → numbered_v (set t v x) v ≡ true
      go true e = numbered-zero (set t v x) v (eqb-true v 0 e)
      go false e =
          let z = get_or-set_same t v x 0 fits in
          numbered-low (set t v x) v (eqb-false v 0 e) (subst (λ (w : ℕ). w < 2147483648) (sym z) small)
          ∙ ap not (ne_eqb (get_or (set t v x) v 0) 0 (λ q. omega (arith, z, q)))

  pub given-other : (u : ℕ) → (u ≡ v → ⊥) → numbered_v (set t v x) u ≡ numbered_v t u
  given-other u n = numbered-by t (set t v x) u (ap shown (get_or-set_other t v u x 0 n))

  pub given-unnumbered : (u : ℕ) → numbered_v (set t v x) u ≡ false → (u ≡ v → ⊥) × (numbered_v t u ≡ false)
  given-unnumbered u h = (apart, sym (given-other u apart) ∙ h)
    where
      apart : u ≡ v → ⊥
      apart e = false≢true (sym h ∙ ap (λ (w : ℕ). numbered_v (set t v x) w) e ∙ given-here)
