-- The report of a list in two parts: each number is the sum of those of the parts, but for the change between them. So no step is
-- forgotten and none counts twice.
use Prim.Native.Nat.{ℕ, ◌+◌}
use mathlib.Core.Path.{◌≡◌, refl, ap, ◌∙◌}
use mathlib.Core.Bool.{cond}
use mathlib.Core.List.{List, [], ◌∷◌, ◌++◌, map-append}
use native.Mathlib.Omega.{arith}
use lib.ListN.{get_or}
use Rattle.plan.specs.Circuit.{Circuit}
use Rattle.plan.specs.Step.{Value, vx, next_of, Step, step_of, run, same}
use Rattle.plan.specs.Whole.{state_after}
use Rattle.plan.specs.Report.{times, changes_after, changes, output_along, latch_along}

pub times-parts : (a : Value) (l m : List Value) → times a (l ++ m) ≡ times a l + times a m
times-parts a [] m = omega arith
times-parts a (b ∷ l) m = omega (arith, times-parts a l m)

-- the change between two parts: 1 if the last value of the first differs from the first of the second
abbrev pub between : List Value → List Value → ℕ
between [] m = 0
between (a ∷ []) [] = 0
between (a ∷ []) (b ∷ m) = cond (same a b) 0 1
between (a ∷ (b ∷ l)) m = between (b ∷ l) m

changes-after : (a : Value) (l m : List Value) → changes_after a (l ++ m) ≡ changes_after a l + changes m + between (a ∷ l) m
changes-after a [] [] = refl
changes-after a [] (b ∷ m) = omega arith
changes-after a (b ∷ l) m = omega (arith, changes-after b l m)

pub changes-parts : (l m : List Value) → changes (l ++ m) ≡ changes l + changes m + between l m
changes-parts [] m = omega arith
changes-parts (a ∷ l) m = changes-after a l m

-- the second part is stepped from the state that the first leaves
pub run-parts : (c : Circuit) (s : List Value) (is js : List (List Value)) → run c s (is ++ js) ≡ run c s is ++ run c (state_after c s is) js
run-parts c s [] js = refl
run-parts c s (i ∷ is) js = ap (λ (steps : List Step). step_of c s i ∷ steps) (run-parts c (next_of c s i) is js)

module _ (c : Circuit) (s : List Value) (is js : List (List Value)) where
  abbrev before : List Step
  before = run c s is

  abbrev later : List Step
  later = run c (state_after c s is) js

  outputs-join : (i : ℕ) → output_along (run c s (is ++ js)) i ≡ output_along before i ++ output_along later i
  outputs-join i = ap (λ (x : List Step). output_along x i) (run-parts c s is js) ∙ map-append (λ s. get_or s.outputs i vx) before later

  latches-join : (i : ℕ) → latch_along (run c s (is ++ js)) i ≡ latch_along before i ++ latch_along later i
  latches-join i = ap (λ (x : List Step). latch_along x i) (run-parts c s is js) ∙ map-append (λ s. get_or s.state i vx) before later

  -- the steps at 0, at 1 and at x
  pub output-times : (i : ℕ) (a : Value) → times a (output_along (run c s (is ++ js)) i) ≡ times a (output_along before i) + times a (output_along later i)
  output-times i a = ap (times a) (outputs-join i) ∙ times-parts a (output_along before i) (output_along later i)

  pub latch-times : (i : ℕ) (a : Value) → times a (latch_along (run c s (is ++ js)) i) ≡ times a (latch_along before i) + times a (latch_along later i)
  latch-times i a = ap (times a) (latches-join i) ∙ times-parts a (latch_along before i) (latch_along later i)

  -- the changes
  pub output-changes : (i : ℕ) → changes (output_along (run c s (is ++ js)) i)
      ≡ changes (output_along before i) + changes (output_along later i) + between (output_along before i) (output_along later i)
  output-changes i = ap changes (outputs-join i) ∙ changes-parts (output_along before i) (output_along later i)

  pub latch-changes : (i : ℕ) → changes (latch_along (run c s (is ++ js)) i)
      ≡ changes (latch_along before i) + changes (latch_along later i) + between (latch_along before i) (latch_along later i)
  latch-changes i = ap changes (latches-join i) ∙ changes-parts (latch_along before i) (latch_along later i)
