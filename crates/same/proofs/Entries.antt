-- Lists that agree entry by entry, as pairs of entries. A law of one entry is a law of every list: each is stated once here.
use Prim.Native.Nat.{ℕ, suc}
use mathlib.Core.Path.{◌≡◌, refl, ap, ap₂}
use mathlib.Core.Bool.{Bool, true, false≢true}
use mathlib.Core.List.{List, [], ◌∷◌, ◌++◌, map}
use lib.ListN.{length}
use Rattle.plan.specs.Literals.{var_of}
use Rattle.plan.specs.Circuit.{literal_of, heads}
use Rattle.laws.proofs.Reading.Common.{and_left, and_right}
use Rattle.same.specs.Agreement.{entry_by_entry}

-- every entry of a list
module _ {A : Type 0} where
  abbrev pub All : (A → Type 0) → List A → Type 0
  All Q [] = Unit {0}
  All Q (x ∷ xs) = Q x × All Q xs

  pub all_any : {Q : A → Type 0} → ((x : A) → Q x) → (xs : List A) → All Q xs
  all_any f [] = tt
  all_any f (x ∷ xs) = (f x, all_any f xs)

  pub all_append : (Q : A → Type 0) (xs ys : List A) → All Q xs → All Q ys → All Q (xs ++ ys)
  all_append Q [] ys a b = b
  all_append Q (x ∷ xs) ys a b = (a.0, all_append Q xs ys a.1 b)

-- pairs of entries
pub data Each {A : Type 0} (R : A → A → Type 0) : List A → List A → Type 0 where
  none : Each R [] []
  more : {x y : A} {xs ys : List A} → R x y → Each R xs ys → Each R (x ∷ xs) (y ∷ ys)

module _ {A : Type 0} where
  -- the test, and what is known of every entry of the first list
  pub each : {R : A → A → Type 0} (Q : A → Type 0) (same : A → A → Bool) → ((x y : A) → Q x → same x y ≡ true → R x y)
      → (xs ys : List A) → All Q xs → entry_by_entry same xs ys ≡ true → Each R xs ys
  each Q same f [] [] a h = none
  each Q same f [] (y ∷ ys) a h = absurd (false≢true h)
  each Q same f (x ∷ xs) [] a h = absurd (false≢true h)
  each Q same f (x ∷ xs) (y ∷ ys) a h =
      more (f x y a.0 (and_left (same x y) (entry_by_entry same xs ys) h))
      (each Q same f xs ys a.1 (and_right (same x y) (entry_by_entry same xs ys) h))

  pub as_many : (same : A → A → Bool) (xs ys : List A) → entry_by_entry same xs ys ≡ true → length xs ≡ length ys
  as_many same [] [] h = refl
  as_many same [] (y ∷ ys) h = absurd (false≢true h)
  as_many same (x ∷ xs) [] h = absurd (false≢true h)
  as_many same (x ∷ xs) (y ∷ ys) h = ap suc (as_many same xs ys (and_right (same x y) (entry_by_entry same xs ys) h))

  pub each_map : {B : Type 0} {R : A → A → Type 0} (p q : A → B) → ((x y : A) → R x y → p y ≡ q x)
      → {xs ys : List A} → Each R xs ys → map p ys ≡ map q xs
  each_map p q f none = refl
  each_map {B = B} p q f (more {x = x} {y = y} r e) = ap₂ (λ (b : B) (bs : List B). b ∷ bs) (f x y r) (each_map p q f e)

  -- the variables that lines define
  pub each-heads : {R : A → A → Type 0} (rename : ℕ → ℕ) (line : A → List ℕ)
      → ((x y : A) → R x y → var_of (literal_of (line y)) ≡ rename (var_of (literal_of (line x))))
      → {xs ys : List A} → Each R xs ys → heads (map line ys) ≡ map rename (heads (map line xs))
  each-heads rename line f none = refl
  each-heads rename line f (more {x = x} {y = y} r e) =
      ap₂ (λ (v : ℕ) (vs : List ℕ). v ∷ vs) (f x y r) (each-heads rename line f e)

  pub each-known : {R : A → A → Type 0} (P : ℕ → Type 0) (line : A → List ℕ) → ((x y : A) → R x y → P (var_of (literal_of (line x))))
      → {xs ys : List A} → Each R xs ys → All P (heads (map line xs))
  each-known P line f none = tt
  each-known P line f (more {x = x} {y = y} r e) = (f x y r, each-known P line f e)
