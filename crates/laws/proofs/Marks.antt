-- Marks of variables: bits, of which variable v has bit v % 32 of word v / 32.
use Prim.Native.Nat.{ℕ, zero, suc, ◌≤◌, ◌<◌}
use mathlib.Core.Path.{◌≡◌, refl, sym, ◌∙◌, subst}
use mathlib.Core.Bool.{Bool, true, false, cond}
use mathlib.Core.List.{List, [], ◌∷◌, ◌++◌}
use native.Mathlib.Omega.{arith}
use native.Mathlib.Decide.{dec_lt}
use borrow.Author.Tests.{eq-eqb, ne_eqb, eqb-true, eqb-false}
use lib.Dec.{eqb}
use lib.ListN.{length, get_or, replicate}
use Rattle.plan.specs.Circuit.{has}
use Rattle.tables.specs.bitmap.Bitmap.{is_on, raised}
use Rattle.tables.proofs.bitmap.Telling.{told_same, blank-off, raised-on, raised-others}
use Rattle.laws.proofs.Running.Lists.{has-seam}
use Rattle.laws.proofs.Running.Scan.{has-snoc}

-- marks of the variables up to m agree with a list of variables: a mark is on exactly if its variable is in the list
abbrev pub Agrees : ℕ → List ℕ → List ℕ → Type 0
Agrees m seen marks = (v : ℕ) → v ≤ m → is_on marks 0 v ≡ has v seen

-- the variables below n that are marked
abbrev marked_below : List ℕ → ℕ → List ℕ
marked_below marks zero = []
marked_below marks (suc n) = cond (is_on marks 0 n) (n ∷ marked_below marks n) (marked_below marks n)

module _ (marks : List ℕ) where
  none-past : (n v : ℕ) → n ≤ v → has v (marked_below marks n) ≡ false
  none-past zero v h = refl
  none-past (suc n) v h = by (is_on marks 0 n) (none-past n v (omega arith))
    where
      by : (t : Bool) → has v (marked_below marks n) ≡ false → has v (cond t (n ∷ marked_below marks n) (marked_below marks n)) ≡ false
      by true e = rw (ne_eqb n v (λ x. omega arith)) e
      by false e = e

  marked-below : (n v : ℕ) → v < n → is_on marks 0 v ≡ has v (marked_below marks n)
  marked-below zero v h = absurd (omega arith)
  marked-below (suc n) v h = by_last (dec_lt v n) (λ l. marked-below n v l)
    where
      earlier : (t : Bool) → v < n → has v (cond t (n ∷ marked_below marks n) (marked_below marks n)) ≡ has v (marked_below marks n)
      earlier true l = rw (ne_eqb n v (λ e. omega arith))
      earlier false l = refl

      last : (t : Bool) → t ≡ has n (cond t (n ∷ marked_below marks n) (marked_below marks n))
      last true = rw (eq-eqb n n refl)
      last false = sym (none-past n n (omega arith))

      by_last : Dec (v < n) → (v < n → is_on marks 0 v ≡ has v (marked_below marks n)) → is_on marks 0 v ≡ has v (marked_below marks (suc n))
      by_last (yes l) f = f l ∙ sym (earlier (is_on marks 0 n) l)
      by_last (no l) f =
          let e : n ≡ v = omega arith in
          subst (λ (u : ℕ). is_on marks 0 u ≡ has u (marked_below marks (suc n))) e (last (is_on marks 0 n))

  -- marks agree with some list, whatever they are
  pub agreeing : (m : ℕ) → (seen : List ℕ) × Agrees m seen marks
  agreeing m = (marked_below marks (suc m), λ v h. marked-below (suc m) v (omega arith))

-- a table that was cleared has no mark
pub zeros : (k i : ℕ) → ◌≡◌ {A = ℕ} (get_or (replicate k 0) i 0) 0
zeros zero i = refl
zeros (suc k) zero = refl
zeros (suc k) (suc i) = zeros k i

-- words that are all 0 agree with no variable
pub agrees-none : (m : ℕ) (marks : List ℕ) → ((v : ℕ) → v ≤ m → get_or marks v 0 ≡ 0) → Agrees m [] marks
agrees-none m marks blank v h = blank-off marks 0 v (blank _ (omega arith))

-- marks in the same words agree with the same list
pub agrees-same : (m : ℕ) (seen marks marks' : List ℕ) → ((v : ℕ) → v ≤ m → get_or marks' v 0 ≡ get_or marks v 0) → Agrees m seen marks
    → Agrees m seen marks'
agrees-same m seen marks marks' same a v h = told_same marks marks' 0 v (same _ (omega arith)) ∙ a v h

-- a variable up to m that is marked is one more that is seen
pub agrees-more : (m : ℕ) (seen marks : List ℕ) (v : ℕ) → Agrees m seen marks → v < length marks → Agrees m (seen ++ (v ∷ [])) (raised marks 0 v)
agrees-more m seen marks v a h u l = go (eqb v u) refl
  where
    go : (t : Bool) → eqb v u ≡ t → is_on (raised marks 0 v) 0 u ≡ has u (seen ++ (v ∷ []))
    go true e =
        let same : v ≡ u = eqb-true v u e in
        subst (λ (x : ℕ). is_on (raised marks 0 v) 0 x ≡ has x (seen ++ (v ∷ []))) same
        (raised-on marks 0 v (omega arith) ∙ sym (has-seam v seen []))
    go false e =
        raised-others marks 0 v (omega arith) u (λ p. eqb-false v u e (sym p)) ∙ a u l ∙ sym (has-snoc u v seen e)
