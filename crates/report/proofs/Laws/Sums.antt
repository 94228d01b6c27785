-- The first three numbers of a needle add up to the number of vectors, and its changes are fewer.
use Prim.Native.Nat.{ℕ, suc, ◌+◌, ◌-◌, ◌≤◌}
use mathlib.Core.Path.{◌≡◌, refl, ap, ◌∙◌}
use mathlib.Core.Bool.{Bool, true, false, cond}
use mathlib.Core.List.{List, [], ◌∷◌, map}
use native.Mathlib.Omega.{arith}
use lib.ListN.{length, get_or, length-map}
use Rattle.plan.specs.Circuit.{Circuit, rows_of}
use Rattle.plan.specs.Step.{Value, v0, v1, vx, same, value_of, next_of, Step, run, first_state, vectors_of}
use Rattle.plan.specs.Report.{times, changes_after, changes, output_along, latch_along}
use Rattle.laws.proofs.Writing.Fine.{length-rows}
use Rattle.laws.proofs.Running.Times.{all-counted}

at_most_one : (b : Bool) → cond b 0 1 ≤ 1
at_most_one true = omega arith
at_most_one false = omega arith

changes-after : (a : Value) (l : List Value) → changes_after a l ≤ length l
changes-after a [] = omega arith
changes-after a (b ∷ l) = omega (arith, at_most_one (same a b), changes-after b l)

pub changes-fewer : (l : List Value) → changes l ≤ length l - 1
changes-fewer [] = omega arith
changes-fewer (a ∷ l) = omega (arith, changes-after a l)

-- as many steps as vectors
run_length : (c : Circuit) (s : List Value) (list : List (List Value)) → length (run c s list) ≡ length list
run_length c s [] = refl
run_length c s (i ∷ list) = ap suc (run_length c (next_of c s i) list)

module _ (c : Circuit) (number : ℕ) (bytes : List ℕ) where
  abbrev pub steps : List Step
  steps = run c (first_state c) (vectors_of c number bytes)

  steps-length : length steps ≡ number
  steps-length =
      run_length c (first_state c) (vectors_of c number bytes)
      ∙ (length-map (rows_of (length c.inputs) number bytes) (map value_of) ∙ length-rows (length c.inputs) number bytes)

  -- the first three numbers of each output and of each latch add up to the number of vectors
  pub output-sums : (i : ℕ) → let l = output_along steps i in times v0 l + times v1 l + times vx l ≡ number
  output-sums i = all-counted (output_along steps i) ∙ (length-map steps (λ (s : Step). get_or s.outputs i vx) ∙ steps-length)

  pub latch-sums : (i : ℕ) → let l = latch_along steps i in times v0 l + times v1 l + times vx l ≡ number
  latch-sums i = all-counted (latch_along steps i) ∙ (length-map steps (λ (s : Step). get_or s.state i vx) ∙ steps-length)

  -- and it changes at most at all steps but the first
  pub output-changes : (i : ℕ) → changes (output_along steps i) ≤ number - 1
  output-changes i =
      omega (arith, changes-fewer (output_along steps i), length-map steps (λ (s : Step). get_or s.outputs i vx) ∙ steps-length)

  pub latch-changes : (i : ℕ) → changes (latch_along steps i) ≤ number - 1
  latch-changes i = omega (arith, changes-fewer (latch_along steps i), length-map steps (λ (s : Step). get_or s.state i vx) ∙ steps-length)
