-- The stages of the checks of given tables: the first that refuses is the answer.
use Prim.Native.Nat.{ℕ}
use mathlib.Core.Path.{◌≡◌, ap}
use mathlib.Core.Bool.{Bool, true, false}
use mathlib.Core.List.{List, [], ◌∷◌}
use Rattle.std.specs.Prelude.{Option, Some, None}
use Rattle.plan.specs.declared.Counts.{Counts}
use Rattle.plan.specs.declared.Refusal.{Refusal}
use Rattle.plan.specs.declared.Refusal.TheVariants.{LargeCount, WrongSum, ShortTable}
use Rattle.plan.specs.Refusals.{stage, first_of}
use Rattle.plan.specs.Circuit.{Tables, Lent, against, least_short, words_to_work, cleared}
use Rattle.plan.specs.Header.{text, list_of, over, adds}
use Rattle.plan.specs.Given.{Given, counted, failing, lent_alone, lent_with}
use Rattle.plan.specs.Outcome.{checked_by, check_by}
use Rattle.tables.specs.declared.Sizes.{Sizes}
use Rattle.tables.specs.Lengths.{sizes_of}
use Rattle.judge.specs.Judged.{given_at, lent_stages, all_stages, circuit_stages, lent_shorter}
use Rattle.judge.proofs.Shorter.{short-with, short-alone}

-- 2, 3 and 4
module _ (n : Counts) (lengths : List ℕ) where
  pub at-two : (k : ℕ) → over (counted 1 (list_of n)) ≡ Some k → first_of (lent_stages n lengths) ≡ Some (LargeCount k)
  at-two k e = rw e

  module _ (e2 : over (counted 1 (list_of n)) ≡ None) where
    pub at-three : adds text n ≡ false → first_of (lent_stages n lengths) ≡ Some (WrongSum 0)
    at-three e = rw (e2, e)

    module _ (e3 : adds text n ≡ true) where
      pub at-four : (k : ℕ) → least_short (against 1 (words_to_work n) lengths) ≡ Some k → first_of (lent_stages n lengths) ≡ Some (ShortTable k)
      at-four k e = rw (e2, e3, e)

      pub past-four : least_short (against 1 (words_to_work n) lengths) ≡ None → first_of (lent_stages n lengths) ≡ None
      past-four e = rw (e2, e3, e)

-- then the circuit
after : (a b c : Option Refusal) (rest : List (Option Refusal)) (o : Option Refusal) → first_of (a ∷ b ∷ c ∷ []) ≡ o
    → first_of (a ∷ b ∷ c ∷ rest) ≡ first_of (o ∷ rest)
after None None None rest o e = ap (λ (x : Option Refusal). first_of (x ∷ rest)) e
after None None (Some r) rest o e = ap (λ (x : Option Refusal). first_of (x ∷ rest)) e
after None (Some r) c rest o e = ap (λ (x : Option Refusal). first_of (x ∷ rest)) e
after (Some r) b c rest o e = ap (λ (x : Option Refusal). first_of (x ∷ rest)) e

module _ (ordered : Bool) (n : Counts) (t : Tables) (scratch lengths : List ℕ) where
  abbrev lent : List Lent
  lent = against 1 (words_to_work n) lengths

  from-lent : (o : Option Refusal) → first_of (lent_stages n lengths) ≡ o
      → first_of (all_stages ordered (given_at n t scratch) lent) ≡ first_of (o ∷ circuit_stages ordered n t)
  from-lent o e = go ordered
    where
      go : (ordered : Bool) → first_of (all_stages ordered (given_at n t scratch) lent) ≡ first_of (o ∷ circuit_stages ordered n t)
      go true =
          after (stage LargeCount (over (counted 1 (list_of n)))) (stage WrongSum (failing (adds text n))) (stage ShortTable (least_short lent))
          (circuit_stages true n t) o e
      go false =
          after (stage LargeCount (over (counted 1 (list_of n)))) (stage WrongSum (failing (adds text n))) (stage ShortTable (least_short lent))
          (circuit_stages false n t) o e

  pub lent-refuses : (r : Refusal) → first_of (lent_stages n lengths) ≡ Some r → first_of (all_stages ordered (given_at n t scratch) lent) ≡ Some r
  lent-refuses r e = from-lent (Some r) e

  pub lent-passes : first_of (lent_stages n lengths) ≡ None
      → first_of (all_stages ordered (given_at n t scratch) lent) ≡ first_of (circuit_stages ordered n t)
  lent-passes e = from-lent None e

module _ (ordered : Bool) (g : Given) (lent : List Lent) where
  -- of the lent tables the stages know the least short one alone
  pub by-short : (lent' : List Lent) → least_short lent ≡ least_short lent' → first_of (all_stages ordered g lent) ≡ first_of (all_stages ordered g lent')
  by-short lent' e = rw e

-- of written tables the stages know the sizes alone
pub same_answer : (g : Given) (to : Sizes) (t' : Tables) → to ≡ sizes_of t' → (ordered : Bool)
    → checked_by (first_of (all_stages ordered g (lent_shorter g to))) ≡ checked_by (first_of (all_stages ordered g (lent_with g t')))
same_answer g to t' sizes ordered = ap checked_by (by-short ordered g (lent_shorter g to) (lent_with g t') (short-with g to t' sizes))

-- given tables alone
pub alone-answer : (ordered : Bool) (g : Given) → check_by (all_stages ordered g (lent_with g g.tables)) g ≡ check_by (all_stages ordered g (lent_alone g)) g
alone-answer ordered g =
    ap (λ (o : Option Refusal). record { answer = checked_by o; scratch = cleared g.scratch })
    (by-short ordered g (lent_with g g.tables) (lent_alone g) (short-alone g))
