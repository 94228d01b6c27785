-- What a call leaves, the next call accepts; and where a line is left and fits, it writes one.
use Prim.Native.Nat.{ℕ, zero, suc, ◌+◌, ◌*◌, ◌/◌, ◌≤◌, ◌<◌, min}
use mathlib.Core.Path.{◌≡◌, refl, ap, ap₂, ◌∙◌}
use mathlib.Core.Bool.{Bool, true, ◌&&◌}
use mathlib.Core.List.{List, [], ◌∷◌, map}
use Rattle.std.specs.Prelude.{Ok, Option, None}
use native.Mathlib.Nat.{le-div_iff_mul-le, min-le_left}
use native.Mathlib.Omega.{arith}
use borrow.Author.Tests.{eq-eqb}
use lib.Dec.{eqb}
use lib.ListN.{length, drop, length-map, length-replicate}
use Rattle.plan.specs.declared.Counts.{Counts}
use Rattle.plan.specs.declared.Refusal.{Refusal}
use Rattle.plan.specs.Refusals.{first_of}
use Rattle.plan.specs.Circuit.{Tables, words_to_work, against}
use Rattle.plan.specs.Step.{Value, code_of, value_of}
use Rattle.plan.specs.Given.{given_circuit, lent_alone}
use Rattle.plan.specs.Outcome.{all_codes}
use Rattle.plan.specs.Programs.{lines_in, all_vectors}
use Rattle.plan.specs.Whole.{TraceEntry, TraceExit, trace_stage, line_width, next_lines, state_after, traced_by, trace}
use Rattle.laws.proofs.Reading.Common.{and_left, and_right, and_intro}
use Rattle.laws.proofs.Writing.Nothing.{both_first}
use Rattle.laws.proofs.Writing.Stepping.{all_codes_lem}
use Rattle.tables.specs.Lengths.{lengths_in, sizes_of}
use Rattle.step.proofs.codes.Places.{codes_in}
use Rattle.judge.specs.Judged.{all_stages}
use Rattle.step.proofs.Checks.{answer}
use Rattle.runs.specs.stimulus.Scan.{ended}
use Rattle.runs.proofs.trace.Answers.{bad}
use Rattle.runs.proofs.trace.InParts.{call, outcome, stages-none, vectors-good, whole, few-is, state-sized}
use Rattle.runs.proofs.stimulus.Passing.{ended-past}
use Rattle.runs.proofs.trace.Together.{lines-past}

-- whole lines past some of them
ended-drop : (m : ℕ) (l : List ℕ) → ended l ≡ true → ended (drop m l) ≡ true
ended-drop zero l e = e
ended-drop (suc m) [] e = refl
ended-drop (suc m) (b ∷ l) e = ended-drop m l (ended-past b l e)

good-drop : (w m : ℕ) (rows : List (List ℕ)) → all_vectors w rows ≡ true → all_vectors w (drop m rows) ≡ true
good-drop w zero rows e = e
good-drop w (suc m) [] e = refl
good-drop w (suc m) (row ∷ rows) e = good-drop w m rows (and_right (eqb (length row) w && all_codes row) (all_vectors w rows) e)

module _ (e : TraceEntry) (k : ℕ) (said : (trace e).answer ≡ Ok k) (out : List ℕ) where
  abbrev n : Counts
  n = e.circuit.counts

  abbrev t : Tables
  t = e.circuit.tables

  abbrev next : TraceEntry
  next = call n t (trace e).scratch (trace e).state (drop ((n.I + 1) * k) e.vectors) out

  few-enough : k ≤ length (lines_in e.vectors)
  few-enough = omega (arith, few-is e k said, min-le_left (length (lines_in e.vectors)) (length e.out / line_width n))

  vectors-again : (ended next.vectors && all_vectors n.I (lines_in next.vectors)) ≡ true
  vectors-again =
      and_intro (ended next.vectors) (all_vectors n.I (lines_in next.vectors))
      (ended-drop ((n.I + 1) * k) e.vectors
      (and_left (ended e.vectors) (all_vectors n.I (lines_in e.vectors)) (vectors-good e k said).1))
      (ap (all_vectors n.I) (lines-past n.I e.vectors (whole e k said) k few-enough)
      ∙ good-drop n.I k (lines_in e.vectors) (whole e k said))

  abbrev after : List Value
  after = state_after (given_circuit e.circuit) (map value_of e.state) (next_lines e)

  state-is : (trace e).state ≡ map code_of after
  state-is = ap (λ (x : TraceExit). x.state) (outcome e k said)

  state-again : codes_in next.state n.L ≡ true
  state-again =
      ap (λ (l : List ℕ). codes_in l n.L) state-is
      ∙ and_intro (eqb (length (map code_of after)) n.L) (all_codes (map code_of after))
      (eq-eqb (length (map code_of after)) n.L (length-map after code_of ∙ state-sized e k said)) (all_codes_lem after)

  scratch-again : length (trace e).scratch ≡ length e.circuit.scratch
  scratch-again = ap (λ (x : TraceExit). length x.scratch) (outcome e k said) ∙ length-replicate (length e.circuit.scratch) 0

  stages-again : first_of (all_stages true next.circuit (lent_alone next.circuit)) ≡ None
  stages-again =
      ap (λ (m : ℕ). first_of (all_stages true e.circuit (against 1 (words_to_work n) (lengths_in (sizes_of t) m)))) scratch-again
      ∙ (stages-none e k said).0

  nothing-again : answer next.circuit (trace_stage next) ≡ None
  nothing-again =
      both_first (all_stages true next.circuit (lent_alone next.circuit)) (trace_stage next ∷ []) stages-again
      ∙ (ap₂ (λ (s v : Bool). first_of (bad s v ∷ [])) state-again vectors-again)

  -- the next call tells as many lines as are left and fit
  pub goes_on_lem : (trace next).answer ≡ Ok (length (next_lines next))
  goes_on_lem = ap (λ (o : Option Refusal). (traced_by o next).answer) nothing-again

-- one line at least, if one is left and fits
pub some-lines : (lines room w : ℕ) → 0 < lines → 0 < w → w ≤ room → 0 < min lines (room / w)
some-lines lines room w h p fits =
    let one : 1 ≤ room / w = (le-div_iff_mul-le {k = w} {x = 1} {y = room} p).1 (omega arith) in
    omega arith
