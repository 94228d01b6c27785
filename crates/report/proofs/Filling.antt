-- Table 6 before the first step and after the last: zero, and then the report's numbers with zero past them.
use Prim.Native.Nat.{ℕ, zero, suc, ◌+◌, ◌-◌, ◌*◌, ◌≤◌, ◌<◌}
use mathlib.Core.Path.{◌≡◌, refl, sym, ap, ap₂, ◌∙◌}
use mathlib.Core.List.{List, [], ◌∷◌, ◌++◌, append_assoc}
use native.Mathlib.Omega.{arith}
use lib.ListN.{length, take, drop, replicate, length-append, replicate-append-replicate}
use lib.Seq.{drop_at, drop-drop}
use Rattle.plan.specs.declared.Counts.{Counts}
use Rattle.plan.specs.Circuit.{Circuit, filled, cleared}
use Rattle.plan.specs.Step.{Step}
use Rattle.plan.specs.Outcome.{put}
use Rattle.plan.specs.Report.{numbers_of, output_along, latch_along, in_turn, needles}
use Rattle.report.specs.needles.Tally.{kept, finished, row_from, finished_all}
use Rattle.report.proofs.needles.Rows.{same_turn, turn-add, turn-length, turn-row}
use Rattle.report.proofs.needles.Numbers.{finished-kept}
use Rattle.report.specs.Tallying.{tally}
use Rattle.report.proofs.Turning.{replace}

-- no steps: every word is zero
blank-rows : (n : ℕ) → in_turn (λ i. 0 ∷ 0 ∷ 0 ∷ 0 ∷ []) n ≡ replicate (4 * n) 0
blank-rows zero = refl
blank-rows (suc n) =
    let more : 4 * n + 4 ≡ 4 * suc n = omega arith in
    ap (λ (l : List ℕ). l ++ (0 ∷ 0 ∷ 0 ∷ 0 ∷ [])) (blank-rows n)
    ∙ (replicate-append-replicate (4 * n) 4 0 ∙ ap (λ (k : ℕ). replicate k 0) more)

pub blank-tally : (n : Counts) (six : List ℕ) → 4 * (n.O + n.L) ≤ length six
    → cleared six ≡ tally n [] ++ replicate (length six - 4 * (n.O + n.L)) 0
blank-tally n six long =
    let k : ℕ = 4 * (n.O + n.L) in
    let sum : 4 * n.O + 4 * n.L ≡ k = omega arith in
    let all : k + (length six - k) ≡ length six = omega arith in
    sym (ap (λ (l : List ℕ). l ++ replicate (length six - k) 0)
    (ap₂ ◌++◌ (blank-rows n.O) (blank-rows n.L)
    ∙ (replicate-append-replicate (4 * n.O) (4 * n.L) 0 ∙ ap (λ (m : ℕ). replicate m 0) sum))
    ∙ (replicate-append-replicate k (length six - k) 0 ∙ ap (λ (m : ℕ). replicate m 0) all))

pub tally-long : (n : Counts) (steps : List Step) → length (tally n steps) ≡ 4 * (n.O + n.L)
tally-long n steps =
    length-append (in_turn (λ i. kept (output_along steps i)) n.O) (in_turn (λ i. kept (latch_along steps i)) n.L)
    ∙ omega (arith, turn-length (λ i. kept (output_along steps i)) (λ i. refl) n.O, turn-length (λ i. kept (latch_along steps i)) (λ i. refl) n.L)

module _ (n : Counts) (c : Circuit) (steps : List Step) (rest : List ℕ) (outputs : length c.outputs ≡ n.O) (latches : length c.latches ≡ n.L) where
  abbrev outs : List ℕ
  outs = in_turn (λ i. kept (output_along steps i)) n.O

  abbrev lats : List ℕ
  lats = in_turn (λ i. kept (latch_along steps i)) n.L

  abbrev six : List ℕ
  six = outs ++ (lats ++ rest)

  outs-long : length outs ≡ 4 * n.O
  outs-long = turn-length (λ i. kept (output_along steps i)) (λ i. refl) n.O

  lats-long : length lats ≡ 4 * n.L
  lats-long = turn-length (λ i. kept (latch_along steps i)) (λ i. refl) n.L

  -- each row's numbers
  output_row : (i : ℕ) → i < n.O → finished (row_from six 0 i) ≡ numbers_of (output_along steps i)
  output_row i h =
      let at : 0 + 4 * i ≡ 4 * i = omega arith in
      ap (λ (k : ℕ). finished (take 4 (drop k six))) at
      ∙ (ap finished (turn-row (λ i. kept (output_along steps i)) (λ i. refl) n.O i (lats ++ rest) h) ∙ finished-kept (output_along steps i))

  latch-row : (i : ℕ) → i < n.L → finished (row_from six 0 (n.O + i)) ≡ numbers_of (latch_along steps i)
  latch-row i h =
      let at : 0 + 4 * (n.O + i) ≡ 4 * n.O + 4 * i = omega arith in
      ap (λ (k : ℕ). finished (take 4 (drop k six))) at
      ∙ (ap (λ (l : List ℕ). finished (take 4 l))
      (sym (drop-drop (4 * i) (4 * n.O) six) ∙ ap (drop (4 * i)) (drop_at outs (lats ++ rest) (4 * n.O) outs-long))
      ∙ (ap finished (turn-row (λ i. kept (latch_along steps i)) (λ i. refl) n.L i rest h) ∙ finished-kept (latch_along steps i)))

  rows : finished_all (n.O + n.L) six ≡ needles c steps
  rows =
      turn-add (λ i. finished (row_from six 0 i)) n.O n.L
      ∙ (ap₂ ◌++◌
      (same_turn (λ i. finished (row_from six 0 i)) (λ i. numbers_of (output_along steps i)) n.O output_row)
      (same_turn (λ i. finished (row_from six 0 (n.O + i))) (λ i. numbers_of (latch_along steps i)) n.L latch-row)
      ∙ ap₂ (λ (o l : ℕ). in_turn (λ i. numbers_of (output_along steps i)) o ++ in_turn (λ i. numbers_of (latch_along steps i)) l)
      (sym outputs) (sym latches))

  needles-long : length (needles c steps) ≡ 4 * (n.O + n.L)
  needles-long =
      length-append (in_turn (λ i. numbers_of (output_along steps i)) (length c.outputs)) (in_turn (λ i. numbers_of (latch_along steps i)) (length c.latches))
      ∙ omega (
        arith,
        turn-length (λ i. numbers_of (output_along steps i)) (λ i. refl) (length c.outputs),
        turn-length (λ i. numbers_of (latch_along steps i)) (λ i. refl) (length c.latches),
        outputs,
        latches,
      )

  pub all_finished : (six₀ : List ℕ) → six₀ ≡ tally n steps ++ rest → put six₀ 0 (finished_all (n.O + n.L) six₀) ≡ needles c steps ++ rest
  all_finished six₀ e =
      ap (λ (l : List ℕ). put l 0 (finished_all (n.O + n.L) l)) (e ∙ append_assoc outs lats rest)
      ∙ (ap₂ (λ (l w : List ℕ). put l 0 w) (sym (append_assoc outs lats rest)) rows
      ∙ replace [] (outs ++ lats) (needles c steps) rest 0 refl
      (needles-long ∙ omega (arith, length-append outs lats, outs-long, lats-long)))

  -- zero past the numbers
  pub filled-report : (six₀ : List ℕ) → needles c steps ++ replicate (length six₀ - 4 * (n.O + n.L)) 0 ≡ filled six₀ (needles c steps)
  filled-report six₀ = ap (λ (k : ℕ). needles c steps ++ replicate (length six₀ - k) 0) (sym needles-long)
