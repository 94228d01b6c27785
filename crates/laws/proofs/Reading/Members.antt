-- What a list of numbers has; different numbers that are all in a list are no more than it is long.
use Prim.Native.Nat.{ℕ, suc, ◌≤◌}
use mathlib.Core.Path.{◌≡◌, refl, sym, ap, ◌∙◌, subst}
use mathlib.Core.Bool.{Bool, true, false, not, ◌&&◌, ◌||◌, false≢true}
use mathlib.Core.List.{List, [], ◌∷◌}
use native.Mathlib.Omega.{arith}
use borrow.Author.Tests.{eqb-true, eqb-false, eq-eqb, ne_eqb, not-true}
use lib.Dec.{eqb}
use lib.ListN.{length}
use Rattle.plan.specs.Circuit.{has}
use Rattle.laws.proofs.Reading.Common.{and_left, and_right}

pub has-self : (x : ℕ) (xs : List ℕ) → has x (x ∷ xs) ≡ true
has-self x xs = rw (eq-eqb x x refl)

pub has-later : (v x : ℕ) (xs : List ℕ) → has v xs ≡ true → has v (x ∷ xs) ≡ true
has-later v x xs h = go (eqb x v)
  where
    go : (t : Bool) → (t || has v xs) ≡ true
    go true = refl
    go false = h

-- v is one of x and the others
pub has-cases : (C : Type 0) (x v : ℕ) (xs : List ℕ) → has v (x ∷ xs) ≡ true → (x ≡ v → C) → (has v xs ≡ true → C) → C
has-cases C x v xs h f g = go (eqb x v) refl h
  where
    go : (t : Bool) → eqb x v ≡ t → (t || has v xs) ≡ true → C
    go true e p = f (eqb-true x v e)
    go false e p = g p

pub has-not : (v x : ℕ) (xs : List ℕ) → has x xs ≡ false → has v xs ≡ true → eqb x v ≡ false
has-not v x xs h k = ne_eqb x v (λ e. false≢true (sym h ∙ subst (λ (u : ℕ). has u xs ≡ true) (sym e) k))

abbrev pub distinct : List ℕ → Bool
distinct [] = true
distinct (u ∷ us) = not (has u us) && distinct us

-- different variables that are all in a list are no more than it is long
abbrev keep : Bool → ℕ → List ℕ → List ℕ → List ℕ
keep true y ys zs = ys
keep false y ys zs = y ∷ zs

abbrev without : ℕ → List ℕ → List ℕ
without x [] = []
without x (y ∷ ys) = keep (eqb y x) y ys (without x ys)

length_without : (x : ℕ) (ys : List ℕ) → has x ys ≡ true → length ys ≡ suc (length (without x ys))
length_without x [] h = absurd (false≢true h)
length_without x (y ∷ ys) h = go (eqb y x) (length_without x ys) h
  where
    go : (t : Bool) → (has x ys ≡ true → length ys ≡ suc (length (without x ys))) → (t || has x ys) ≡ true
        → suc (length ys) ≡ suc (length (keep t y ys (without x ys)))
    go true f p = refl
    go false f p = ap suc (f p)

has-without : (x v : ℕ) → eqb x v ≡ false → (ys : List ℕ) → has v ys ≡ true → has v (without x ys) ≡ true
has-without x v n [] h = h
has-without x v n (y ∷ ys) h = go (eqb y x) refl (eqb y v) refl (has-without x v n ys) h
  where
    go : (t : Bool) → eqb y x ≡ t → (r : Bool) → eqb y v ≡ r → (has v ys ≡ true → has v (without x ys) ≡ true) → (r || has v ys) ≡ true
        → has v (keep t y ys (without x ys)) ≡ true
    go true e true q f p = absurd (eqb-false x v n (sym (eqb-true y x e) ∙ eqb-true y v q))
    go true e false q f p = p
    go false e true q f p = rw q
    go false e false q f p = rw q (f p)

pub pigeon : (xs ys : List ℕ) → distinct xs ≡ true → ((v : ℕ) → has v xs ≡ true → has v ys ≡ true) → length xs ≤ length ys
pigeon [] ys d h = omega arith
pigeon (x ∷ xs) ys d h =
    let x-in : has x ys ≡ true = h x (rw (eq-eqb x x refl)) in
    let x-out : has x xs ≡ false = not-true (has x xs) (and_left (not (has x xs)) (distinct xs) d) in
    omega (
      arith,
      length_without x ys x-in,
      pigeon xs (without x ys) (and_right (not (has x xs)) (distinct xs) d)
          (λ v k. has-without x v (has-not v x xs x-out k) ys (h v (or-in (eqb x v) (has v xs) k))),
    )
  where
    or-in : (a b : Bool) → b ≡ true → (a || b) ≡ true
    or-in true b k = refl
    or-in false b k = k
