-- Variables that stand at the first places: each is in the list of them, what holds at each place holds of each in the list, and if
-- all are different they stand at one place only.
use Prim.Native.Nat.{ℕ, zero, suc, ◌-◌, ◌<◌}
use mathlib.Core.Path.{◌≡◌, refl, sym, ap, ◌∙◌, subst}
use mathlib.Core.Bool.{Bool, true, false, false≢true}
use mathlib.Core.List.{[], ◌∷◌}
use native.Mathlib.Nat.{not-suc-le-zero}
use native.Mathlib.Omega.{arith}
use borrow.Author.Tests.{eqb-true, eqb-false}
use lib.Dec.{eqb}
use Rattle.plan.specs.Circuit.{has}
use Rattle.laws.proofs.Reading.Members.{distinct}
use Rattle.laws.proofs.Running.Lists.{has_left, has-seam, distinct-left, apart}
use Rattle.laws.proofs.Running.Scan.{has-snoc}
use Rattle.laws.proofs.Tables.{firsts}

pub has_first : (at : ℕ → ℕ) (n i : ℕ) → i < n → has (at i) (firsts at n) ≡ true
has_first at zero i h = absurd (not-suc-le-zero h)
has_first at (suc n) i h = go (eqb i n) refl (has_first at n i)
  where
    go : (b : Bool) → eqb i n ≡ b → (i < n → has (at i) (firsts at n) ≡ true) → has (at i) (firsts at (suc n)) ≡ true
    go true e f = subst (λ (x : ℕ). has (at x) (firsts at (suc n)) ≡ true) (sym (eqb-true i n e)) (has-seam (at n) (firsts at n) [])
    go false e f = has_left (at i) (firsts at n) (at n ∷ []) (f (omega (arith, eqb-false i n e)))

pub of_places : (P : ℕ → Type 0) (at : ℕ → ℕ) (n v : ℕ) → ((i : ℕ) → i < n → P (at i)) → has v (firsts at n) ≡ true → P v
of_places P at zero v f h = absurd (false≢true h)
of_places P at (suc n) v f h = go (eqb (at n) v) refl (of_places P at n v (λ i k. f i (omega arith)))
  where
    go : (b : Bool) → eqb (at n) v ≡ b → (has v (firsts at n) ≡ true → P v) → P v
    go true e g = subst P (eqb-true (at n) v e) (f n (omega arith))
    go false e g = g (sym (has-snoc v (at n) (firsts at n) e) ∙ h)

-- one that stands later is not among the ones before
later : (at : ℕ → ℕ) (n i j : ℕ) → distinct (firsts at n) ≡ true → i < j → j < n → at i ≡ at j → ⊥
later at zero i j d h k e = not-suc-le-zero k
later at (suc n) i j d h k e = go (eqb j n) refl (λ q. later at n i j (distinct-left (firsts at n) (at n ∷ []) d) h q e)
  where
    go : (b : Bool) → eqb j n ≡ b → (j < n → ⊥) → ⊥
    go true z f =
        let y = eqb-true j n z in
        false≢true
        (sym (apart (firsts at n) (at n ∷ []) d (at n) (has-seam (at n) [] []))
        ∙ subst (λ (x : ℕ). has x (firsts at n) ≡ true) (e ∙ ap at y) (has_first at n i (omega arith)))
    go false z f = f (omega (arith, eqb-false j n z))

pub one_place : (at : ℕ → ℕ) (n i j : ℕ) → distinct (firsts at n) ≡ true → i < n → j < n → (i ≡ j → ⊥) → at i ≡ at j → ⊥
one_place at n i j d hi hj ne e = go (j - i) refl
  where
    go : (m : ℕ) → j - i ≡ m → ⊥
    go (suc m) z = later at n i j d (omega (arith, z)) hj e
    go zero z = later at n j i d (omega (arith, z, ne)) hi (sym e)
