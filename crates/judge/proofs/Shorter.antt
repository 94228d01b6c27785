-- 4 over given and written tables, of which those of one number are judged by the shorter.
use Prim.Native.Nat.{ℕ, ◌+◌, ◌≤◌, min}
use mathlib.Core.Path.{◌≡◌, ap, ◌∙◌}
use mathlib.Core.Logic.{◌⊎◌, inl, inr, ⊎_elim}
use mathlib.Core.List.{List, [], ◌∷◌, ◌++◌}
use native.Mathlib.Omega.{arith}
use native.Mathlib.Decide.{dec_le}
use lib.ListN.{length}
use Rattle.plan.specs.Circuit.{Tables, Lent, against, least_short, words_to_work, lengths_of}
use Rattle.plan.specs.Given.{Given, lent_alone, lent_with}
use Rattle.laws.proofs.Reading.Short.{ShortIn, same-short}
use Rattle.tables.specs.declared.Sizes.{Sizes}
use Rattle.tables.specs.Lengths.{sizes_of}
use Rattle.judge.specs.Judged.{lent_shorter}

-- a table among those of two lists
module _ (k : ℕ) where
  in_left : (xs ys : List Lent) → ShortIn k xs → ShortIn k (xs ++ ys)
  in_left [] ys h = absurd h
  in_left (x ∷ xs) ys (inl h) = inl h
  in_left (x ∷ xs) ys (inr h) = inr (in_left xs ys h)

  in_right : (xs ys : List Lent) → ShortIn k ys → ShortIn k (xs ++ ys)
  in_right [] ys h = h
  in_right (x ∷ xs) ys h = inr (in_right xs ys h)

  in_either : (xs ys : List Lent) → ShortIn k (xs ++ ys) → ShortIn k xs ⊎ ShortIn k ys
  in_either [] ys h = inr h
  in_either (x ∷ xs) ys (inl h) = inl (inl h)
  in_either (x ∷ xs) ys (inr h) = later (in_either xs ys h)
    where
      later : ShortIn k xs ⊎ ShortIn k ys → ShortIn k (x ∷ xs) ⊎ ShortIn k ys
      later (inl q) = inl (inr q)
      later (inr q) = inr q

-- of two lengths each the lesser
abbrev lesser_of : List ℕ → List ℕ → List ℕ
lesser_of [] b = []
lesser_of (x ∷ a) [] = []
lesser_of (x ∷ a) (y ∷ b) = min x y ∷ lesser_of a b

module _ (k : ℕ) where
  from-lesser : (t : ℕ) (needs a b : List ℕ) → ShortIn k (against t needs (lesser_of a b)) → ShortIn k (against t needs a) ⊎ ShortIn k (against t needs b)
  from-lesser t [] a b h = absurd h
  from-lesser t (n ∷ needs) [] b h = inl h
  from-lesser t (n ∷ needs) (x ∷ a) [] h = inr h
  from-lesser t (n ∷ needs) (x ∷ a) (y ∷ b) (inl h) = by (dec_le n x)
    where
      by : Dec (n ≤ x) → ShortIn k (against t (n ∷ needs) (x ∷ a)) ⊎ ShortIn k (against t (n ∷ needs) (y ∷ b))
      by (yes l) = inr (inl (h.0, omega (arith, h.1)))
      by (no l) = inl (inl (h.0, omega arith))
  from-lesser t (n ∷ needs) (x ∷ a) (y ∷ b) (inr h) = later (from-lesser (t + 1) needs a b h)
    where
      later : ShortIn k (against (t + 1) needs a) ⊎ ShortIn k (against (t + 1) needs b)
          → ShortIn k (against t (n ∷ needs) (x ∷ a)) ⊎ ShortIn k (against t (n ∷ needs) (y ∷ b))
      later (inl q) = inl (inr q)
      later (inr q) = inr (inr q)

  first-lesser : (t : ℕ) (needs a b : List ℕ) → length a ≡ length b → ShortIn k (against t needs a) → ShortIn k (against t needs (lesser_of a b))
  first-lesser t [] a b l h = absurd h
  first-lesser t (n ∷ needs) [] b l h = h
  first-lesser t (n ∷ needs) (x ∷ a) [] l h = absurd (omega (arith, l))
  first-lesser t (n ∷ needs) (x ∷ a) (y ∷ b) l (inl h) = inl (h.0, omega (arith, h.1))
  first-lesser t (n ∷ needs) (x ∷ a) (y ∷ b) l (inr h) = inr (first-lesser (t + 1) needs a b (omega (arith, l)) h)

  second-lesser : (t : ℕ) (needs a b : List ℕ) → length a ≡ length b → ShortIn k (against t needs b) → ShortIn k (against t needs (lesser_of a b))
  second-lesser t [] a b l h = absurd h
  second-lesser t (n ∷ needs) [] [] l h = h
  second-lesser t (n ∷ needs) [] (y ∷ b) l h = absurd (omega (arith, l))
  second-lesser t (n ∷ needs) (x ∷ a) [] l h = absurd (omega (arith, l))
  second-lesser t (n ∷ needs) (x ∷ a) (y ∷ b) l (inl h) = inl (h.0, omega (arith, h.1))
  second-lesser t (n ∷ needs) (x ∷ a) (y ∷ b) l (inr h) = inr (second-lesser (t + 1) needs a b (omega (arith, l)) h)

short-both : (t : ℕ) (needs a b : List ℕ) → length a ≡ length b
    → least_short (against t needs (lesser_of a b)) ≡ least_short (against t needs a ++ against t needs b)
short-both t needs a b l =
    same-short (against t needs (lesser_of a b)) (against t needs a ++ against t needs b)
    (λ k h. ⊎_elim (in_left k (against t needs a) (against t needs b)) (in_right k (against t needs a) (against t needs b))
    (from-lesser k t needs a b h))
    (λ k h. ⊎_elim (first-lesser k t needs a b l) (second-lesser k t needs a b l)
    (in_either k (against t needs a) (against t needs b) h))

-- with written tables of these sizes
pub short-with : (g : Given) (to : Sizes) (t : Tables) → to ≡ sizes_of t → least_short (lent_shorter g to) ≡ least_short (lent_with g t)
short-with g to t e =
    let own = g.tables in
    let once : length g.scratch ≡ min (length g.scratch) (length g.scratch) = omega arith in
    ap (λ (x : Sizes). least_short (lent_shorter g x)) e
    ∙ (ap (λ (n : ℕ). least_short (against 1 (words_to_work g.counts)
    (min (length own.inputs) (length t.inputs) ∷ min (length own.latches) (length t.latches)
    ∷ min (length own.outputs) (length t.outputs) ∷ min (length own.gates) (length t.gates) ∷ n ∷ 0
    ∷ min (length own.resets) (length t.resets) ∷ min (length own.bads) (length t.bads)
    ∷ min (length own.constraints) (length t.constraints) ∷ []))) once
    ∙ short-both 1 (words_to_work g.counts) (lengths_of own g.scratch) (lengths_of t g.scratch) (omega arith))

-- given tables alone
pub short-alone : (g : Given) → least_short (lent_with g g.tables) ≡ least_short (lent_alone g)
short-alone g =
    same-short (lent_with g g.tables) (lent_alone g)
    (λ k h. ⊎_elim (λ q. q) (λ q. q) (in_either k (lent_alone g) (lent_alone g) h))
    (λ k h. in_left k (lent_alone g) (lent_alone g) h)
