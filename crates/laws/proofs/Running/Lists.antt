-- Lists of variables: what a joined list has, the place of a variable, variables that are all different.
use Prim.Native.Nat.{ℕ, zero, suc, ◌<◌}
use mathlib.Core.Path.{◌≡◌, refl, sym, ap, ◌∙◌, subst}
use mathlib.Core.Bool.{Bool, true, false, not, cond, ◌&&◌, ◌||◌, false≢true}
use mathlib.Core.List.{List, [], ◌∷◌, ◌++◌}
use native.Mathlib.Omega.{arith}
use native.Mathlib.Nat.{not-suc-le-zero}
use borrow.Author.Tests.{eq-eqb, not-true}
use lib.Dec.{eqb}
use lib.ListN.{length, get_or}
use Rattle.plan.specs.Literals.{var_of}
use Rattle.plan.specs.Circuit.{vars, has, all_new, index}
use Rattle.laws.proofs.Reading.Common.{and_left, and_right, and_intro}
use Rattle.laws.proofs.Reading.Members.{has-self, has-later, has-cases, has-not, distinct}

pub has_left : (v : ℕ) (xs ys : List ℕ) → has v xs ≡ true → has v (xs ++ ys) ≡ true
has_left v [] ys h = absurd (false≢true h)
has_left v (x ∷ xs) ys h = go (eqb x v) (has_left v xs ys) h
  where
    go : (t : Bool) → (has v xs ≡ true → has v (xs ++ ys) ≡ true) → (t || has v xs) ≡ true → (t || has v (xs ++ ys)) ≡ true
    go true f p = refl
    go false f p = f p

pub has_right : (v : ℕ) (xs ys : List ℕ) → has v ys ≡ true → has v (xs ++ ys) ≡ true
has_right v [] ys h = h
has_right v (x ∷ xs) ys h = has-later v x (xs ++ ys) (has_right v xs ys h)

pub has-seam : (v : ℕ) (xs ys : List ℕ) → has v (xs ++ v ∷ ys) ≡ true
has-seam v xs ys = has_right v xs (v ∷ ys) (has-self v ys)

-- what is in one of two lists and not in the other
pub has-but : (v : ℕ) (xs ys : List ℕ) → has v (xs ++ ys) ≡ true → has v ys ≡ false → has v xs ≡ true
has-but v [] ys h k = absurd (false≢true (sym k ∙ h))
has-but v (x ∷ xs) ys h k = go (eqb x v) (λ p. has-but v xs ys p k) h
  where
    go : (t : Bool) → (has v (xs ++ ys) ≡ true → has v xs ≡ true) → (t || has v (xs ++ ys)) ≡ true → (t || has v xs) ≡ true
    go true f p = refl
    go false f p = f p

pub has_rest : (v : ℕ) (xs ys : List ℕ) → has v (xs ++ ys) ≡ true → has v xs ≡ false → has v ys ≡ true
has_rest v [] ys h k = h
has_rest v (x ∷ xs) ys h k = go (eqb x v) (has_rest v xs ys) h k
  where
    go : (t : Bool) → (has v (xs ++ ys) ≡ true → has v xs ≡ false → has v ys ≡ true) → (t || has v (xs ++ ys)) ≡ true
        → (t || has v xs) ≡ false → has v ys ≡ true
    go true f p q = absurd (false≢true (sym q))
    go false f p q = f p q

-- the place of a variable of the first part
pub index-front : (v : ℕ) (xs ys : List ℕ) → has v xs ≡ true → index v (xs ++ ys) < length xs
index-front v [] ys h = absurd (false≢true h)
index-front v (x ∷ xs) ys h = go (eqb x v) (index-front v xs ys) h
  where
    go : (t : Bool) → (has v xs ≡ true → index v (xs ++ ys) < length xs) → (t || has v xs) ≡ true
        → cond t zero (suc (index v (xs ++ ys))) < suc (length xs)
    go true f p = omega arith
    go false f p = omega (arith, f p)

-- all different: of a first and the others
pub distinct_head : (x : ℕ) (xs : List ℕ) → distinct (x ∷ xs) ≡ true → has x xs ≡ false
distinct_head x xs h = not-true (has x xs) (and_left (not (has x xs)) (distinct xs) h)

pub distinct_tail : (x : ℕ) (xs : List ℕ) → distinct (x ∷ xs) ≡ true → distinct xs ≡ true
distinct_tail x xs h = and_right (not (has x xs)) (distinct xs) h

pub distinct_cons : (x : ℕ) (xs : List ℕ) → has x xs ≡ false → distinct xs ≡ true → distinct (x ∷ xs) ≡ true
distinct_cons x xs h d = and_intro (not (has x xs)) (distinct xs) (ap not h) d

pub absent : (b : Bool) → (b ≡ true → ⊥) → b ≡ false
absent true f = absurd (f refl)
absent false f = refl

-- of two joined lists
pub distinct-left : (xs ys : List ℕ) → distinct (xs ++ ys) ≡ true → distinct xs ≡ true
distinct-left [] ys h = refl
distinct-left (x ∷ xs) ys h =
    distinct_cons x xs (absent (has x xs) (λ e. false≢true (sym (distinct_head x (xs ++ ys) h) ∙ has_left x xs ys e)))
    (distinct-left xs ys (distinct_tail x (xs ++ ys) h))

pub distinct-right : (xs ys : List ℕ) → distinct (xs ++ ys) ≡ true → distinct ys ≡ true
distinct-right [] ys h = h
distinct-right (x ∷ xs) ys h = distinct-right xs ys (distinct_tail x (xs ++ ys) h)

-- a variable of one part is not in the other
pub distinct_apart : (v : ℕ) (xs ys : List ℕ) → distinct (xs ++ ys) ≡ true → has v xs ≡ true → has v ys ≡ false
distinct_apart v [] ys h k = absurd (false≢true k)
distinct_apart v (x ∷ xs) ys h k = has-cases (has v ys ≡ false) x v xs k here (distinct_apart v xs ys (distinct_tail x (xs ++ ys) h))
  where
    here : x ≡ v → has v ys ≡ false
    here e =
        absent (has v ys) (λ p. false≢true (sym (distinct_head x (xs ++ ys) h) ∙ has_right x xs ys
        (subst (λ (u : ℕ). has u ys ≡ true) (sym e) p)))

pub apart : (xs ys : List ℕ) → distinct (xs ++ ys) ≡ true → (v : ℕ) → has v ys ≡ true → has v xs ≡ false
apart xs ys d v h = absent (has v xs) (λ e. false≢true (sym (distinct_apart v xs ys d e) ∙ h))

-- none stands among `seen` or earlier in the list: all different, and none of `seen`
pub new-distinct : (seen xs : List ℕ) → all_new seen xs ≡ true → (distinct xs ≡ true) × ((v : ℕ) → has v xs ≡ true → has v seen ≡ false)
new-distinct seen [] h = (refl, λ v k. absurd (false≢true k))
new-distinct seen (x ∷ xs) h =
    let later = new-distinct (seen ++ (x ∷ [])) xs (and_right (not (has x seen)) (all_new (seen ++ (x ∷ [])) xs) h) in (
      distinct_cons x xs (absent (has x xs) (λ e. false≢true (sym (later.1 x e) ∙ has-seam x seen []))) later.0,
      λ v k. has-cases (has v seen ≡ false) x v xs k
          (λ e. subst (λ (u : ℕ). has u seen ≡ false) e
          (not-true (has x seen) (and_left (not (has x seen)) (all_new (seen ++ (x ∷ [])) xs) h)))
          (λ p. absent (has v seen) (λ q. false≢true (sym (later.1 v p) ∙ has_left v seen (x ∷ []) q))),
    )

-- what stands at a place
pub has-at : (xs : List ℕ) (n : ℕ) → n < length xs → has (get_or xs n 0) xs ≡ true
has-at [] n h = absurd (not-suc-le-zero h)
has-at (x ∷ xs) zero h = has-self x xs
has-at (x ∷ xs) (suc n) h = has-later (get_or xs n 0) x xs (has-at xs n (omega arith))

pub index_at : (xs : List ℕ) → distinct xs ≡ true → (n : ℕ) → n < length xs → index (get_or xs n 0) xs ≡ n
index_at [] d n h = absurd (not-suc-le-zero h)
index_at (x ∷ xs) d zero h = rw (eq-eqb x x refl)
index_at (x ∷ xs) d (suc n) h =
    rw (has-not (get_or xs n 0) x xs (distinct_head x xs d) (has-at xs n (omega arith)))
    (ap suc (index_at xs (distinct_tail x xs d) n (omega arith)))

-- each literal's variable is in a list
abbrev pub all_in : List ℕ → List ℕ → Bool
all_in [] ds = true
all_in (l ∷ ls) ds = has (var_of l) ds && all_in ls ds

pub all_in_lem : (ls ds : List ℕ) → ((v : ℕ) → has v (vars ls) ≡ true → has v ds ≡ true) → all_in ls ds ≡ true
all_in_lem [] ds h = refl
all_in_lem (l ∷ ls) ds h =
    and_intro (has (var_of l) ds) (all_in ls ds) (h (var_of l) (has-self (var_of l) (vars ls)))
    (all_in_lem ls ds (λ v k. h v (has-later v (var_of l) (vars ls) k)))

pub in_head : (l : ℕ) (ls ds : List ℕ) → all_in (l ∷ ls) ds ≡ true → has (var_of l) ds ≡ true
in_head l ls ds h = and_left (has (var_of l) ds) (all_in ls ds) h

pub in_tail : (l : ℕ) (ls ds : List ℕ) → all_in (l ∷ ls) ds ≡ true → all_in ls ds ≡ true
in_tail l ls ds h = and_right (has (var_of l) ds) (all_in ls ds) h
