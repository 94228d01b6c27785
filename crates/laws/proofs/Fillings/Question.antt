-- The witness question: yes exactly if every start and list that fill the given ones show a 1; every yes in three values is a yes; a
-- larger allowance changes neither a yes nor a no.
use Prim.Native.Nat.{ℕ, zero, suc, ◌≤◌}
use mathlib.Core.Path.{◌≡◌, refl, sym, ap, ap₂, ◌∙◌, subst}
use mathlib.Core.Bool.{Bool, true, false, ◌||◌, false≢true}
use mathlib.Core.List.{List, [], ◌∷◌, ◌++◌, map}
use borrow.Author.Tests.{eqb-true}
use lib.Dec.{eqb}
use lib.ListN.{length, take, drop}
use lib.Seq.{take_at, drop_at}
use Rattle.plan.specs.declared.Finding.TheVariants.{Yes, No}
use Rattle.plan.specs.Circuit.{Circuit, rows_of}
use Rattle.plan.specs.Step.{Value, value_of, is_code, first_state, vectors_of, witnessed}
use Rattle.plan.specs.Outcome.{all_codes}
use Rattle.laws.proofs.Reading.Common.{and_left, and_right}
use Rattle.laws.proofs.Running.Refinement.{Le, le_refl, Les}
use Rattle.laws.proofs.Running.Monotone.{Replaced}
use Rattle.laws.proofs.Running.Shown.{shows-replaced}
use Rattle.laws.proofs.Writing.Stepping.{codes-values}
use Rattle.laws.proofs.Running.WithoutX.{NotX, NoX}
use Rattle.plan.specs.Fillings.{is_x, x_count, FillsAt, Fills, fill_from, filling, start_of, asked, shows_at, filled_shows, total_of, question}
use Rattle.laws.proofs.Fillings.Numbering.{fill-fills, Numbered, fills-number, start-filled, list-filled}
use Rattle.laws.proofs.Fillings.Trying.{AllShow, Means, try-means, yes-told, yes-stays, no-stays}

-- a filling refines what it fills
fills-le : (t : Bool) (b d : ℕ) → is_x b ≡ t → FillsAt t b d → Le (value_of b) (value_of d)
fills-le true b d e f = subst (λ (k : ℕ). Le (value_of k) (value_of d)) (sym (eqb-true b 120 e)) tt
fills-le false b d e f = subst (λ (k : ℕ). Le (value_of b) (value_of k)) (sym f) (le_refl (value_of b))

fills-les : (l m : List ℕ) → Fills l m → Les (map value_of l) (map value_of m)
fills-les [] [] f = tt
fills-les [] (d ∷ m) f = absurd f
fills-les (b ∷ l) [] f = absurd f
fills-les (b ∷ l) (d ∷ m) f = (fills-le (is_x b) b d refl f.0, fills-les l m f.1)

fills-take : (n : ℕ) (l m : List ℕ) → Fills l m → Fills (take n l) (take n m)
fills-take zero l m f = tt
fills-take (suc n) [] [] f = tt
fills-take (suc n) [] (d ∷ m) f = absurd f
fills-take (suc n) (b ∷ l) [] f = absurd f
fills-take (suc n) (b ∷ l) (d ∷ m) f = (f.0, fills-take n l m f.1)

fills-drop : (n : ℕ) (l m : List ℕ) → Fills l m → Fills (drop n l) (drop n m)
fills-drop zero l m f = f
fills-drop (suc n) [] [] f = tt
fills-drop (suc n) [] (d ∷ m) f = absurd f
fills-drop (suc n) (b ∷ l) [] f = absurd f
fills-drop (suc n) (b ∷ l) (d ∷ m) f = fills-drop n l m f.1

fills-append : (l m s t : List ℕ) → Fills l m → Fills s t → Fills (l ++ s) (m ++ t)
fills-append [] [] s t f g = g
fills-append [] (d ∷ m) s t f g = absurd f
fills-append (b ∷ l) [] s t f g = absurd f
fills-append (b ∷ l) (d ∷ m) s t f g = (f.0, fills-append l m s t f.1 g)

pub fills-length : (l m : List ℕ) → Fills l m → length m ≡ length l
fills-length [] [] f = refl
fills-length [] (d ∷ m) f = absurd f
fills-length (b ∷ l) [] f = absurd f
fills-length (b ∷ l) (d ∷ m) f = ap suc (fills-length l m f.1)

vectors-replaced : (each number : ℕ) (l m : List ℕ) → Fills l m
    → Replaced (map (map value_of) (rows_of each number l)) (map (map value_of) (rows_of each number m))
vectors-replaced each zero l m f = tt
vectors-replaced each (suc n) l m f =
    (fills-les (take each l) (take each m) (fills-take each l m f), vectors-replaced each n (drop each l) (drop each m) (fills-drop each l m f))

-- no x is left in a filling, so that its steps are those of two values
two-valued : (d : ℕ) → (eqb d 48 || eqb d 49) ≡ true → NotX (value_of d)
two-valued d h = go (eqb d 48) (eqb d 49) refl refl h
  where
    go : (x y : Bool) → eqb d 48 ≡ x → eqb d 49 ≡ y → (x || y) ≡ true → NotX (value_of d)
    go true y p q r = subst (λ (k : ℕ). NotX (value_of k)) (sym (eqb-true d 48 p)) tt
    go false true p q r = subst (λ (k : ℕ). NotX (value_of k)) (sym (eqb-true d 49 q)) tt
    go false false p q r = absurd (false≢true r)

place-two-valued : (b d : ℕ) → is_code b ≡ true → FillsAt (is_x b) b d → NotX (value_of d)
place-two-valued b d h f = go (is_x b) refl (eqb b 48) (eqb b 49) refl refl h f
  where
    go : (t : Bool) → is_x b ≡ t → (x y : Bool) → eqb b 48 ≡ x → eqb b 49 ≡ y → (x || (y || t)) ≡ true → FillsAt t b d → NotX (value_of d)
    go true e x y p q r g = two-valued d g
    go false e true y p q r g = subst (λ (k : ℕ). NotX (value_of k)) (sym (g ∙ eqb-true b 48 p)) tt
    go false e false true p q r g = subst (λ (k : ℕ). NotX (value_of k)) (sym (g ∙ eqb-true b 49 q)) tt
    go false e false false p q r g = absurd (false≢true r)

pub fills-two-valued : (l m : List ℕ) → all_codes l ≡ true → Fills l m → NoX (map value_of m)
fills-two-valued [] [] h f = tt
fills-two-valued [] (d ∷ m) h f = absurd f
fills-two-valued (b ∷ l) [] h f = absurd f
fills-two-valued (b ∷ l) (d ∷ m) h f = (
  place-two-valued b d (and_left (is_code b) (all_codes l) h) f.0,
  fills-two-valued l m (and_right (is_code b) (all_codes l) h) f.1,
)

module _ (c : Circuit) (number : ℕ) (bytes : List ℕ) where
  abbrev begins : List ℕ
  begins = start_of c

  abbrev size : ℕ
  size = length (start_of c)

  -- every start and list that fill the given ones show a 1
  abbrev pub EveryShows : Type 0
  EveryShows = (start list : List ℕ) → Fills (start_of c) start → Fills bytes list → shows_at c start number list ≡ true

  -- a number's filling is that of the start and that of the list
  pub number-shows : (k : ℕ) → filled_shows c number bytes k ≡ shows_at c (filling k begins) number (fill_from k (x_count begins) bytes)
  number-shows k = ap₂ (λ (s l : List ℕ). shows_at c s number l) (start-filled k begins bytes) (list-filled k begins bytes)

  -- each start and list have a number: none is missed
  module _ (start list : List ℕ) (f : Fills begins start) (g : Fills bytes list) where
    both : Numbered (asked c bytes) (start ++ list)
    both = fills-number (asked c bytes) (start ++ list) (fills-append begins start bytes list f g)

    both-shows : filled_shows c number bytes both.number ≡ shows_at c start number list
    both-shows =
        ap₂ (λ (s l : List ℕ). shows_at c s number l)
        (ap (take size) both.is-it ∙ take_at start list size (fills-length begins start f))
        (ap (drop size) both.is-it ∙ drop_at start list size (fills-length begins start f))

  -- what the answer says, and how many were tried
  pub question-means : (allowance : ℕ) → Means (filled_shows c number bytes) (total_of c bytes) allowance (question c number bytes allowance)
  question-means = try-means (filled_shows c number bytes) (total_of c bytes)

  -- yes exactly if every one shows a 1
  pub yes-every : (allowance tried : ℕ) → question c number bytes allowance ≡ Yes tried → EveryShows
  yes-every allowance tried e start list f g =
      let y : AllShow (filled_shows c number bytes) (total_of c bytes) allowance tried =
      subst (Means (filled_shows c number bytes) (total_of c bytes) allowance) e (question-means allowance) in
      let k = both start list f g in
      sym (both-shows start list f g) ∙ y.every k.number k.below

  pub every-yes : (allowance : ℕ) → total_of c bytes ≤ allowance → EveryShows → question c number bytes allowance ≡ Yes (total_of c bytes)
  every-yes allowance h every =
      yes-told (filled_shows c number bytes) (total_of c bytes) allowance h
      (λ k p. number-shows k ∙ every (filling k begins) (fill_from k (x_count begins) bytes) (fill-fills k 0 begins)
      (fill-fills k (x_count begins) bytes))

  -- a 1 that is shown in three values is shown by every filling
  pub shown-filled : witnessed c number bytes ≡ true → EveryShows
  shown-filled e start list f g =
      shows-replaced c (vectors_of c number bytes) (vectors_of c number list) (vectors-replaced (length c.inputs) number bytes list g)
      (first_state c) (map value_of start)
      (subst (λ (s : List Value). Les s (map value_of start)) (codes-values (first_state c)) (fills-les begins start f)) e

  pub old-yes : (allowance : ℕ) → total_of c bytes ≤ allowance → witnessed c number bytes ≡ true
      → question c number bytes allowance ≡ Yes (total_of c bytes)
  old-yes allowance h e = every-yes allowance h (shown-filled e)

  -- a larger allowance never changes a yes or a no
  pub larger-yes : (a b tried : ℕ) → a ≤ b → question c number bytes a ≡ Yes tried → question c number bytes b ≡ Yes tried
  larger-yes = yes-stays (filled_shows c number bytes) (total_of c bytes)

  pub larger-no : (a b tried : ℕ) → a ≤ b → question c number bytes a ≡ No tried → question c number bytes b ≡ No tried
  larger-no = no-stays (filled_shows c number bytes) (total_of c bytes)
