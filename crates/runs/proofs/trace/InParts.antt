-- A call that is not refused: its buffer starts with the next lines of the run, and the state and the vectors that are left tell the rest.
use Prim.Native.Nat.{ℕ, ◌+◌, ◌*◌, ◌/◌, min}
use mathlib.Core.Path.{◌≡◌, refl, sym, ap, ap₂, ◌∙◌}
use mathlib.Core.Bool.{Bool, true, false, ◌&&◌}
use mathlib.Core.List.{List, [], ◌∷◌, ◌++◌, map, map-append}
use Rattle.std.specs.Prelude.{Ok, Option, Some, None}
use native.Mathlib.Nat.{min-le_left}
use native.Mathlib.Omega.{arith}
use borrow.Author.Tests.{eqb-true}
use lib.Dec.{eqb}
use lib.ListN.{length, take, drop, length-map, take-append-drop}
use lib.Seq.{length-take-le}
use Rattle.plan.specs.declared.Counts.{Counts}
use Rattle.plan.specs.declared.Refusal.{Refusal}
use Rattle.plan.specs.Refusals.{first_of}
use Rattle.plan.specs.Circuit.{Circuit, Tables, circuit_of}
use Rattle.plan.specs.Step.{Value, value_of, run}
use Rattle.plan.specs.Given.{given_circuit, lent_alone}
use Rattle.plan.specs.Outcome.{all_codes}
use Rattle.plan.specs.Programs.{lines_in, all_vectors, step_lines}
use Rattle.plan.specs.Whole.{TraceEntry, TraceExit, trace_stage, line_width, next_lines, state_after, traced_by, trace}
use Rattle.laws.proofs.Put.{put_first}
use Rattle.laws.proofs.Reading.Common.{and_left, and_right}
use Rattle.laws.proofs.Writing.Nothing.{first-both}
use Rattle.laws.proofs.Writing.Stepping.{codes-values}
use Rattle.step.proofs.codes.Places.{codes_in}
use Rattle.judge.specs.Judged.{all_stages}
use Rattle.judge.proofs.Sound.{Good, good-alone}
use Rattle.step.proofs.Checks.{answer}
use Rattle.runs.specs.stimulus.Scan.{ended}
use Rattle.runs.proofs.trace.Answers.{bad}
use Rattle.runs.proofs.trace.Together.{traced-together, traced-length, after-length, all-sized, lines-past}

-- the vectors of lines, as values
abbrev pub values : List ℕ → List (List Value)
values vectors = map (map value_of) (lines_in vectors)

all-good : (s v : Bool) → first_of (bad s v ∷ []) ≡ None → (s ≡ true) × (v ≡ true)
all-good true true e = (refl, refl)
all-good true false e = let z : ◌≡◌ {A = ℕ} 0 1 = cc in absurd (omega arith)
all-good false v e = let z : ◌≡◌ {A = ℕ} 0 1 = cc in absurd (omega arith)

no-refusal : (e : TraceEntry) (k : ℕ) (o : Option Refusal) → (traced_by o e).answer ≡ Ok k → o ≡ None
no-refusal e k None q = refl
no-refusal e k (Some r) q = let z : ◌≡◌ {A = ℕ} 0 1 = cc in absurd (omega arith)

module _ (e : TraceEntry) (k : ℕ) (said : (trace e).answer ≡ Ok k) where
  abbrev n : Counts
  n = e.circuit.counts

  abbrev c : Circuit
  c = given_circuit e.circuit

  abbrev s : List Value
  s = map value_of e.state

  nothing : answer e.circuit (trace_stage e) ≡ None
  nothing = no-refusal e k (answer e.circuit (trace_stage e)) said

  pub outcome : trace e ≡ traced_by None e
  outcome = ap (λ (o : Option Refusal). traced_by o e) nothing

  pub stages-none : (first_of (all_stages true e.circuit (lent_alone e.circuit)) ≡ None) × (first_of (trace_stage e ∷ []) ≡ None)
  stages-none = first-both (all_stages true e.circuit (lent_alone e.circuit)) (trace_stage e ∷ []) nothing

  pub tables-good : Good true e.circuit
  tables-good = good-alone true e.circuit stages-none.0

  pub vectors-good : (codes_in e.state n.L ≡ true) × ((ended e.vectors && all_vectors n.I (lines_in e.vectors)) ≡ true)
  vectors-good =
      all-good (codes_in e.state n.L) (ended e.vectors && all_vectors n.I (lines_in e.vectors)) stages-none.1

  pub whole : all_vectors n.I (lines_in e.vectors) ≡ true
  whole = and_right (ended e.vectors) (all_vectors n.I (lines_in e.vectors)) vectors-good.1

  state-long : length s ≡ n.L
  state-long =
      length-map e.state value_of
      ∙ eqb-true (length e.state) n.L (and_left (eqb (length e.state) n.L) (all_codes e.state) vectors-good.0)

  -- as many lines as there are and fit
  abbrev few : ℕ
  few = min (length (lines_in e.vectors)) (length e.out / line_width n)

  counted : length (next_lines e) ≡ k
  counted =
      let q : Ok (length (next_lines e)) ≡ Ok k = sym (ap (λ (x : TraceExit). x.answer) outcome) ∙ said in
      cc

  pub few-is : few ≡ k
  few-is =
      sym (length-map (take few (lines_in e.vectors)) (map value_of)
      ∙ length-take-le few (lines_in e.vectors) (min-le_left (length (lines_in e.vectors)) (length e.out / line_width n)))
      ∙ counted

  -- the vectors that are left
  vectors-left : values e.vectors ≡ next_lines e ++ values (drop ((n.I + 1) * k) e.vectors)
  vectors-left =
      ap (map (map value_of)) (sym (take-append-drop few (lines_in e.vectors)))
      ∙ (map-append (map value_of) (take few (lines_in e.vectors)) (drop few (lines_in e.vectors))
      ∙ ap (λ (l : List (List ℕ)). next_lines e ++ map (map value_of) l)
      (sym (lines-past n.I e.vectors whole few (min-le_left (length (lines_in e.vectors)) (length e.out / line_width n)))
      ∙ ap (λ (m : ℕ). lines_in (drop ((n.I + 1) * m) e.vectors)) few-is))

  abbrev lines : List ℕ
  lines = step_lines (run c s (next_lines e))

  lines_long : length lines ≡ line_width n * k
  lines_long =
      traced-length c n tables-good.counts (next_lines e) (all-sized n.I (lines_in e.vectors) whole few) s state-long
      ∙ ap (λ (m : ℕ). line_width n * m) counted

  lines-there : take (line_width n * k) (trace e).out ≡ lines
  lines-there =
      ap₂ (λ (m : ℕ) (x : TraceExit). take m x.out) (sym lines_long) outcome ∙ put_first e.out lines

  state-there : map value_of (trace e).state ≡ state_after c s (next_lines e)
  state-there = ap (λ (x : TraceExit). map value_of x.state) outcome ∙ codes-values (state_after c s (next_lines e))

  -- the state keeps its length
  pub state-sized : length (state_after c s (next_lines e)) ≡ n.L
  state-sized = after-length c (next_lines e) s (ap (λ (m : Counts). m.L) tables-good.counts) state-long

  pub trace-part : step_lines (run c s (values e.vectors))
      ≡ take (line_width n * k) (trace e).out
      ++ step_lines (run c (map value_of (trace e).state) (values (drop ((n.I + 1) * k) e.vectors)))
  trace-part =
      ap (λ (l : List (List Value)). step_lines (run c s l)) vectors-left
      ∙ (traced-together c s (next_lines e) (values (drop ((n.I + 1) * k) e.vectors))
      ∙ ap₂ (λ (l : List ℕ) (x : List Value). l ++ step_lines (run c x (values (drop ((n.I + 1) * k) e.vectors))))
      (sym lines-there) (sym state-there))

-- a call on tables, with what is lent to it
abbrev pub call : Counts → Tables → List ℕ → List ℕ → List ℕ → List ℕ → TraceEntry
call n t scratch state vectors out = record {
  circuit = record { counts = n; tables = t; scratch = scratch };
  state = state;
  vectors = vectors;
  out = out;
}

-- calls until no vector is left, each with a buffer of its own, from the scratch and the state that the one before left
pub data Calls (n : Counts) (t : Tables) : List ℕ → List ℕ → List ℕ → List ℕ → Type 0 where
  none_left : {scratch state : List ℕ} → Calls n t scratch state [] []
  one_more : {scratch state vectors printed : List ℕ} (out : List ℕ) (k : ℕ)
      → (trace (call n t scratch state vectors out)).answer ≡ Ok k
      → Calls n t (trace (call n t scratch state vectors out)).scratch (trace (call n t scratch state vectors out)).state
      (drop ((n.I + 1) * k) vectors) printed
      → Calls n t scratch state vectors (take (line_width n * k) (trace (call n t scratch state vectors out)).out ++ printed)

-- what they print together is the run
pub calls-print : {n : Counts} {t : Tables} {scratch state vectors printed : List ℕ} → Calls n t scratch state vectors printed
    → printed ≡ step_lines (run (circuit_of n t) (map value_of state) (values vectors))
calls-print none_left = refl
calls-print {n} {t} {scratch} {state} {vectors} (one_more out k said rest) =
    ap (λ (l : List ℕ). take (line_width n * k) (trace (call n t scratch state vectors out)).out ++ l) (calls-print rest)
    ∙ sym (trace-part (call n t scratch state vectors out) k said)
