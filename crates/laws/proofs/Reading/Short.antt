-- 4 names the least table that is too short, and nothing if all are long enough.
use Prim.Native.Nat.{ℕ, ◌+◌, ◌*◌, ◌<◌, ◌≤◌, min}
use mathlib.Core.Path.{◌≡◌, refl, ap, subst}
use mathlib.Core.Bool.{Bool, true, false, cond}
use mathlib.Core.Logic.{◌⊎◌, inl, inr, ◌↔◌}
use mathlib.Core.List.{List, [], ◌∷◌, ◌++◌, map}
use Rattle.std.specs.Prelude.{Option, Some, None}
use native.Mathlib.Omega.{arith}
use native.Mathlib.Nat.{le_refl}
use native.Mathlib.Decide.{dec_le}
use borrow.Author.Tests.{leb-true, leb-false}
use lib.Dec.{leb}
use lib.ListN.{get_or, drop}
use Rattle.plan.specs.declared.Counts.{Counts}
use Rattle.plan.specs.declared.Version.TheVariants.{V19}
use Rattle.plan.specs.Refusals.{got}
use Rattle.plan.specs.Circuit.{Lent, or_less, least_short, against, words_with, scratch_to_work}
use Rattle.plan.specs.Header.{Form, text, binary, Head, header, scratch_to_read, words_to_read, words_for}

abbrev pub AllLong : List Lent → Type 0
AllLong [] = Unit {0}
AllLong (x ∷ xs) = (x.needed ≤ x.words) × AllLong xs

-- tables of two lists are long enough exactly if those of each are
pub long-both : (xs ys : List Lent) → AllLong xs → AllLong ys → AllLong (xs ++ ys)
long-both [] ys h k = k
long-both (x ∷ xs) ys h k = (h.0, long-both xs ys h.1 k)

pub first-long : (xs ys : List Lent) → AllLong (xs ++ ys) → AllLong xs
first-long [] ys h = tt
first-long (x ∷ xs) ys h = (h.0, first-long xs ys h.1)

pub last-long : (xs ys : List Lent) → AllLong (xs ++ ys) → AllLong ys
last-long [] ys h = h
last-long (x ∷ xs) ys h = last-long xs ys h.1

-- a table of number t is too short
abbrev pub ShortIn : ℕ → List Lent → Type 0
ShortIn t [] = ⊥
ShortIn t (x ∷ xs) = ((x.table ≡ t) × (x.words < x.needed)) ⊎ ShortIn t xs

abbrev pub ShortSays : List Lent → Option ℕ → Type 0
ShortSays xs None = AllLong xs
ShortSays xs (Some t) = ShortIn t xs × ((u : ℕ) → ShortIn u xs → t ≤ u)

none-short : (xs : List Lent) → AllLong xs → (u : ℕ) → ShortIn u xs → ⊥
none-short [] h u k = k
none-short (x ∷ xs) h u (inl k) = omega (arith, h.0, k.1)
none-short (x ∷ xs) h u (inr k) = none-short xs h.1 u k

pub short-says : (xs : List Lent) → ShortSays xs (least_short xs)
short-says [] = tt
short-says (x ∷ xs) = go (leb x.needed x.words) refl (least_short xs) (short-says xs)
  where
    go : (b : Bool) → leb x.needed x.words ≡ b → (r : Option ℕ) → ShortSays xs r → ShortSays (x ∷ xs) (cond b r (or_less x.table r))
    go true e None h = (leb-true _ _ e, h)
    go true e (Some t) h = (inr h.0, least)
      where
        least : (u : ℕ) → ShortIn u (x ∷ xs) → t ≤ u
        least u (inl k) = absurd (omega (arith, leb-true x.needed x.words e, k.1))
        least u (inr k) = h.1 u k
    go false e None h = (inl (refl, leb-false _ _ e), least)
      where
        least : (u : ℕ) → ShortIn u (x ∷ xs) → x.table ≤ u
        least u (inl k) = omega (arith, k.0)
        least u (inr k) = absurd (none-short xs h u k)
    go false e (Some t) h = (by_size (dec_le t x.table), least)
      where
        by_size : Dec (t ≤ x.table) → ShortIn (min t x.table) (x ∷ xs)
        by_size (yes l) = let m : t ≡ min t x.table = omega arith in inr (subst (λ (y : ℕ). ShortIn y xs) m h.0)
        by_size (no l) = let m : x.table ≡ min t x.table = omega arith in inl (m, leb-false _ _ e)

        least : (u : ℕ) → ShortIn u (x ∷ xs) → min t x.table ≤ u
        least u (inl k) = omega (arith, k.0)
        least u (inr k) = omega (arith, h.1 u k)

pub short_none : (xs : List Lent) → (least_short xs ≡ None) ↔ AllLong xs
short_none xs = (λ e. subst (ShortSays xs) e (short-says xs), λ h. go h (least_short xs) (short-says xs))
  where
    go : AllLong xs → (r : Option ℕ) → ShortSays xs r → r ≡ None
    go h None k = refl
    go h (Some t) k = absurd (none-short xs h t k.0)

pub short-named : (xs : List Lent) (t : ℕ) → (least_short xs ≡ Some t) ↔ ShortSays xs (Some t)
short-named xs t = (λ e. subst (ShortSays xs) e (short-says xs), λ h. go h (least_short xs) (short-says xs))
  where
    go : ShortSays xs (Some t) → (r : Option ℕ) → ShortSays xs r → r ≡ Some t
    go h None k = absurd (none-short xs k t h.0)
    go h (Some u) k = let e : u ≡ t = omega (arith, h.1 u k.0, k.1 t h.0) in ap Some e

-- tables of which the same numbers are too short
pub same-short : (xs ys : List Lent) → ((t : ℕ) → ShortIn t xs → ShortIn t ys) → ((t : ℕ) → ShortIn t ys → ShortIn t xs) → least_short xs ≡ least_short ys
same-short xs ys f g = go (least_short xs) (short-says xs) (least_short ys) (short-says ys)
  where
    go : (r : Option ℕ) → ShortSays xs r → (s : Option ℕ) → ShortSays ys s → r ≡ s
    go None h None k = refl
    go None h (Some t) k = absurd (none-short xs h t (g t k.0))
    go (Some t) h None k = absurd (none-short ys k t (f t h.0))
    go (Some t) h (Some u) k = let e : t ≡ u = omega (arith, h.1 u (g u k.0), k.1 t (f t h.0)) in ap Some e

-- the words lent as table 5
abbrev pub lent_five : List ℕ → ℕ
lent_five lengths = get_or (drop 1 (drop 1 (drop 1 (drop 1 lengths)))) 0 0

-- tables that are long enough, with other needs of table 5
pub short-with : (s s' : ℕ) (n : Counts) (lengths : List ℕ) → (s ≤ lent_five lengths → s' ≤ lent_five lengths)
    → least_short (against 1 (words_with s n) lengths) ≡ None → least_short (against 1 (words_with s' n) lengths) ≡ None
short-with s s' n lengths five h =
    let l = (short_none (against 1 (words_with s n) lengths)).0 h in
    let m = l.1.1.1.1 in
    (short_none (against 1 (words_with s' n) lengths)).1 (l.0, (l.1.0, (l.1.1.0, (l.1.1.1.0, (five m.0, m.1)))))

-- to read a file table 5 needs no more than for other calls
pub read-less : (f : Form) (n : Counts) → n.I + n.L + n.A ≤ n.M → scratch_to_read f n ≤ scratch_to_work n
read-less text n sum = omega arith
read-less binary n sum = omega arith

-- tables of exactly the words that the desk question names are long enough to read the file
pub desk-enough : (file : List ℕ) (h : Head) (at : ℕ) → header V19 file 0 ≡ got h at
    → least_short (against 1 (words_to_read h.form h.counts) (map (words_for file) (1 ∷ 2 ∷ 3 ∷ 4 ∷ 5 ∷ []) ++ (0 ∷ map (words_for file) (7 ∷ 8 ∷ 9 ∷ []))))
    ≡ None
desk-enough file h at head =
    let n = h.counts in
    rw head ((short_none (against 1 (words_to_read h.form n) (words_to_read h.form n))).1 (
      le_refl n.I,
      (
        le_refl (2 * n.L),
        (
          le_refl n.O,
          (
            le_refl (3 * n.A),
            (le_refl (scratch_to_read h.form n), (omega arith, (le_refl n.L, (le_refl n.B, (le_refl n.C, tt))))),
          ),
        ),
      ),
    ))
