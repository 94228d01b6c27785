-- The answer with table 6 is that of all stages, table 6 being one of the lent tables.
use Prim.Native.Nat.{ℕ, ◌≤◌, ◌<◌, min}
use mathlib.Core.Path.{◌≡◌, refl, sym, ap, ◌∙◌}
use mathlib.Core.Bool.{Bool, true, false, cond}
use mathlib.Core.List.{List, [], ◌∷◌, ◌++◌}
use Rattle.std.specs.Prelude.{Result, Ok, Err, Option, Some, None}
use native.Mathlib.Omega.{arith}
use native.Mathlib.Decide.{dec_lt}
use borrow.Author.Tests.{lt-ltb, le-ltb, ltb-true, ltb-false, le-leb, lt-leb}
use lib.Dec.{ltb, leb}
use lib.ListN.{length}
use Rattle.plan.specs.declared.Refusal.{Refusal}
use Rattle.plan.specs.declared.Refusal.TheVariants.{LargeCount, WrongSum, ShortTable, OutOfRange, DefinedTwice, NotDefined, Cyclic, NotInOrder}
use Rattle.plan.specs.Refusals.{stage, first_of}
use Rattle.plan.specs.Circuit.{Lent, least_short, or_less}
use Rattle.plan.specs.Header.{text, list_of, over, adds}
use Rattle.plan.specs.Depends.{undefined_in, cyclic_in}
use Rattle.plan.specs.Binary.{binary_order}
use Rattle.plan.specs.Given.{Given, given_circuit, counted, failing, lent_alone, outside_in, twice_in}
use Rattle.plan.specs.Outcome.{checked_by, check_in_order}
use Rattle.plan.specs.Sixth.{sixth_stages}
use Rattle.judge.specs.table_six.Judged.{before_sixth, with_sixth}

-- the least of two places, where there is one
abbrev less_of : Option ℕ → ℕ → Option ℕ
less_of None t = Some t
less_of (Some u) t = Some (min u t)

-- one lent table more that is long enough, or not
more-long : (x : Lent) → leb x.needed x.words ≡ true → (xs : List Lent) → least_short (xs ++ (x ∷ [])) ≡ least_short xs
more-long x e [] = ap (λ (b : Bool). cond b None (or_less x.table None)) e
more-long x e (y ∷ xs) = ap (λ (r : Option ℕ). cond (leb y.needed y.words) r (or_less y.table r)) (more-long x e xs)

or-less : (v t : ℕ) (o : Option ℕ) → or_less v (less_of o t) ≡ less_of (or_less v o) t
or-less v t None = let e : min t v ≡ min v t = omega arith in ap Some e
or-less v t (Some u) = let e : min (min u t) v ≡ min (min u v) t = omega arith in ap Some e

more-short : (x : Lent) → leb x.needed x.words ≡ false → (xs : List Lent) → least_short (xs ++ (x ∷ [])) ≡ less_of (least_short xs) x.table
more-short x e [] = ap (λ (b : Bool). cond b None (or_less x.table None)) e
more-short x e (y ∷ xs) =
    ap (λ (r : Option ℕ). cond (leb y.needed y.words) r (or_less y.table r)) (more-short x e xs) ∙ go (leb y.needed y.words)
  where
    go : (b : Bool) → cond b (less_of (least_short xs) x.table) (or_less y.table (less_of (least_short xs) x.table))
        ≡ less_of (cond b (least_short xs) (or_less y.table (least_short xs))) x.table
    go true = refl
    go false = or-less y.table x.table (least_short xs)

-- the stages, of which the third is 4
abbrev refusals : Option ℕ → Option ℕ → Option ℕ → Option ℕ → Option ℕ → Option ℕ → Option ℕ → Option ℕ → List (Option Refusal)
refusals o2 o3 o4 o5 o6 o7 o8 o15 =
    stage LargeCount o2 ∷ stage WrongSum o3 ∷ stage ShortTable o4 ∷ stage OutOfRange o5 ∷ stage DefinedTwice o6 ∷ stage NotDefined o7
    ∷ stage Cyclic o8 ∷ stage NotInOrder o15 ∷ []

abbrev refusing : Bool → ℕ → Result Unit Refusal
refusing b k = cond b (Err (ShortTable k)) (Err (ShortTable 6))

least-six : (k : ℕ) → refusing (ltb k 6) k ≡ Err (ShortTable (min k 6))
least-six k = go (dec_lt k 6)
  where
    go : Dec (k < 6) → refusing (ltb k 6) k ≡ Err (ShortTable (min k 6))
    go (yes h) =
        let e : k ≡ min k 6 = omega arith in
        ap (λ (b : Bool). refusing b k) (lt-ltb k 6 h) ∙ ap {B = Result Unit Refusal} (λ (m : ℕ). Err (ShortTable m)) e
    go (no h) =
        let e : 6 ≡ min k 6 = omega arith in
        let l : 6 ≤ k = omega arith in
        ap (λ (b : Bool). refusing b k) (le-ltb k 6 l) ∙ ap {B = Result Unit Refusal} (λ (m : ℕ). Err (ShortTable m)) e

short-then : (o2 o3 o4 o5 o6 o7 o8 o15 : Option ℕ)
    → with_sixth (checked_by (first_of (refusals o2 o3 o4 o5 o6 o7 o8 o15))) true ≡ checked_by (first_of (refusals o2 o3 (less_of o4 6) o5 o6 o7 o8 o15))
short-then (Some k) o3 o4 o5 o6 o7 o8 o15 = refl
short-then None (Some k) o4 o5 o6 o7 o8 o15 = refl
short-then None None (Some k) o5 o6 o7 o8 o15 = least-six k
short-then None None None (Some k) o6 o7 o8 o15 = refl
short-then None None None None (Some k) o7 o8 o15 = refl
short-then None None None None None (Some k) o8 o15 = refl
short-then None None None None None None (Some k) o15 = refl
short-then None None None None None None None (Some k) = refl
short-then None None None None None None None None = refl

-- the law: an answer of the checks without table 6, and whether that is too short, give the answer of all stages with it
module _ (g : Given) (needed : ℕ) (six : List ℕ) where
  abbrev table : Lent
  table = record { table = 6; needed = needed; words = length six }

  abbrev all : Option ℕ → List (Option Refusal)
  all o =
      refusals (over (counted 1 (list_of g.counts))) (failing (adds text g.counts)) o (outside_in (given_circuit g)) (twice_in (given_circuit g))
      (undefined_in (given_circuit g)) (cyclic_in (given_circuit g)) (failing (binary_order (given_circuit g)))

  pub with-sixth : (b : Bool) → b ≡ ltb (length six) needed
      → with_sixth (check_in_order g).answer b ≡ checked_by (first_of (sixth_stages g needed six))
  with-sixth false e =
      let l : needed ≤ length six = ltb-false (length six) needed (sym e) in
      sym (ap (λ (o : Option ℕ). checked_by (first_of (all o))) (more-long table (le-leb needed (length six) l) (lent_alone g)))
  with-sixth true e =
      let l : length six < needed = ltb-true (length six) needed (sym e) in
      short-then (over (counted 1 (list_of g.counts))) (failing (adds text g.counts)) (least_short (lent_alone g)) (outside_in (given_circuit g)) (twice_in (given_circuit g))
      (undefined_in (given_circuit g)) (cyclic_in (given_circuit g)) (failing (binary_order (given_circuit g)))
      ∙ sym (ap (λ (o : Option ℕ). checked_by (first_of (all o))) (more-short table (lt-leb needed (length six) l) (lent_alone g)))

-- nothing is refused: the checks without table 6 refuse nothing, and it is long enough
not_good : {A : Type 0} (r : Refusal) → ◌≡◌ {A = Result Unit Refusal} (Err r) (Ok tt) → A
not_good r e = let z : ◌≡◌ {A = ℕ} 0 1 = cc in absurd (omega arith)

pub nothing-refused : (answer : Result Unit Refusal) (b : Bool) → with_sixth answer b ≡ Ok tt → (answer ≡ Ok tt) × (b ≡ false)
nothing-refused answer false e = (e, refl)
nothing-refused (Ok tt) true e = not_good (ShortTable 6) e
nothing-refused (Err r) true e = go (before_sixth r) e
  where
    go : (q : Bool) → cond {A = Result Unit Refusal} q (Err r) (Err (ShortTable 6)) ≡ Ok tt → ◌≡◌ {A = Result Unit Refusal} (Err r) (Ok tt) × (true ≡ false)
    go true h = not_good r h
    go false h = not_good (ShortTable 6) h
