-- Marks that agree with the variables defined: the least variable without one is what refusal 7 names.
use Prim.Native.Nat.{ℕ, zero, ◌+◌, ◌≤◌, ◌<◌, min}
use mathlib.Core.Path.{◌≡◌, refl, ap, ◌∙◌}
use mathlib.Core.Bool.{Bool, true, false, cond, ◌||◌}
use mathlib.Core.List.{List, [], ◌∷◌}
use Rattle.std.specs.Prelude.{Option, Some, None}
use native.Mathlib.Omega.{arith}
use lib.Dec.{eqb}
use Rattle.plan.specs.Literals.{var_of}
use Rattle.plan.specs.Circuit.{vars, has, or_less}
use Rattle.plan.specs.Depends.{least_missing}
use Rattle.laws.proofs.Marks.{Agrees}
use Rattle.tables.specs.bitmap.Bitmap.{is_on}
use Rattle.judge.specs.used.Least.{lower, lowest}

-- the variables of literals are at most m
abbrev pub UpTo : ℕ → List ℕ → Type 0
UpTo m [] = Unit {0}
UpTo m (l ∷ ls) = (var_of l ≤ m) × UpTo m ls

-- the lesser of k and what is named
abbrev less_of : ℕ → Option ℕ → ℕ
less_of k None = k
less_of k (Some v) = min v k

-- one more literal: what has no mark is not defined
turn : (marks : List ℕ) (k l : ℕ) (t : Bool) → is_on marks 0 (var_of l) ≡ t → (o : Option ℕ)
    → less_of (lower marks k l) o ≡ less_of k (cond (eqb 0 (var_of l) || t) o (or_less (var_of l) o))
unfolding lower
turn marks k l t e o = rw e (go (eqb 0 (var_of l)) t o)
  where
    go : (s u : Bool) (p : Option ℕ)
        → less_of (cond (s || u) k (min (var_of l) k)) p ≡ less_of k (cond (s || u) p (or_less (var_of l) p))
    go true u p = refl
    go false true p = refl
    go false false None = refl
    go false false (Some w) = omega arith

lowest-least : (m : ℕ) (ds marks : List ℕ) → Agrees m ds marks → (k : ℕ) (ls : List ℕ) → UpTo m ls
    → lowest marks k ls ≡ less_of k (least_missing (zero ∷ ds) (vars ls))
lowest-least m ds marks h k [] up = refl
lowest-least m ds marks h k (l ∷ ls) up =
    lowest-least m ds marks h (lower marks k l) ls up.1
    ∙ turn marks k l (has (var_of l) ds) (h (var_of l) up.0) (least_missing (zero ∷ ds) (vars ls))

-- what is named is used, and so at most m
abbrev Under : ℕ → Option ℕ → Type 0
Under m None = Unit {0}
Under m (Some v) = v ≤ m

least_under : (m : ℕ) (ds ls : List ℕ) → UpTo m ls → Under m (least_missing ds (vars ls))
least_under m ds [] up = tt
least_under m ds (l ∷ ls) up = go (has (var_of l) ds) (least_missing ds (vars ls)) (least_under m ds ls up.1)
  where
    go : (t : Bool) (o : Option ℕ) → Under m o → Under m (cond t o (or_less (var_of l) o))
    go true o h = h
    go false None h = up.0
    go false (Some v) h = omega (arith, up.0)

-- from one more than m, which is above every variable
module _ (m : ℕ) (ds marks : List ℕ) (agrees : Agrees m ds marks) (ls : List ℕ) (up : UpTo m ls) where
  pub none_named : m < lowest marks (m + 1) ls → None ≡ least_missing (zero ∷ ds) (vars ls)
  none_named h = go (least_missing (zero ∷ ds) (vars ls)) (lowest-least m ds marks agrees (m + 1) ls up) (least_under m (zero ∷ ds) ls up)
    where
      go : (o : Option ℕ) → lowest marks (m + 1) ls ≡ less_of (m + 1) o → Under m o → None ≡ o
      go None e u = refl
      go (Some v) e u = absurd (omega arith)

  pub one-named : lowest marks (m + 1) ls ≤ m → Some (lowest marks (m + 1) ls) ≡ least_missing (zero ∷ ds) (vars ls)
  one-named h = go (least_missing (zero ∷ ds) (vars ls)) (lowest-least m ds marks agrees (m + 1) ls up) (least_under m (zero ∷ ds) ls up)
    where
      go : (o : Option ℕ) → lowest marks (m + 1) ls ≡ less_of (m + 1) o → Under m o → Some (lowest marks (m + 1) ls) ≡ o
      go None e u = absurd (omega arith)
      go (Some v) e u = let same : lowest marks (m + 1) ls ≡ v = omega arith in ap Some same
