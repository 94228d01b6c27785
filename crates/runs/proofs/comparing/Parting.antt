-- Both engines over a part of a run: what equal answers are, and that with at most 24 gates they never part.
use Prim.Native.Nat.{ℕ, ◌≤◌}
use mathlib.Core.Path.{◌≡◌, refl, sym, ap, ap₂, ◌∙◌}
use mathlib.Core.Bool.{Bool, true, false, ◌&&◌, false≢true}
use mathlib.Core.List.{List, [], ◌∷◌, ◌++◌, map}
use Rattle.std.specs.Prelude.{Result, Ok, Err, Option, Some, None}
use native.Mathlib.Omega.{arith}
use borrow.Author.Tests.{eq-eqb, ne_eqb, eqb-true}
use lib.Dec.{eqb}
use lib.ListN.{length, replicate, length-replicate}
use Rattle.plan.specs.declared.Refusal.{Refusal}
use Rattle.plan.specs.Refusals.{number_of, place_of, first_of}
use Rattle.plan.specs.Circuit.{words_to_work, against}
use Rattle.plan.specs.Given.{given_circuit, stages, order_stage}
use Rattle.plan.specs.Step.{code_of, value_of, run}
use Rattle.plan.specs.Outcome.{put, traced_values}
use Rattle.plan.specs.Programs.{step_lines}
use Rattle.plan.specs.Whole.{TraceEntry, TraceExit, trace_stage, next_lines, state_after, traced_by, trace}
use Rattle.laws.proofs.Reading.Common.{and_left, and_right}
use Rattle.laws.proofs.Writing.Over.{refusal-number}
use Rattle.tables.specs.Lengths.{lengths_in, sizes_of}
use Rattle.step.proofs.Checks.{answer}
use Rattle.plan.specs.Plain.{plain_trace}
use Rattle.laws.proofs.Writing.Refusing.{refused-leaves}
use Rattle.runs.specs.comparing.Both.{same_bytes, same_answer, agree, CompareEntry, compared_by, both, twin_of, compare}
use Rattle.runs.proofs.comparing.Answers.{same_lines}

bytes_same : (l : List ℕ) → same_bytes l l ≡ true
bytes_same [] = refl
bytes_same (a ∷ l) = ap₂ ◌&&◌ (eq-eqb a a refl) (bytes_same l)

same_bytes_lem : (a b : List ℕ) → same_bytes a b ≡ true → a ≡ b
same_bytes_lem [] [] e = refl
same_bytes_lem [] (b ∷ m) e = absurd (false≢true e)
same_bytes_lem (a ∷ l) [] e = absurd (false≢true e)
same_bytes_lem (a ∷ l) (b ∷ m) e =
    ap₂ (λ (x : ℕ) (y : List ℕ). x ∷ y) (eqb-true a b (and_left (eqb a b) (same_bytes l m) e)) (same_bytes_lem l m (and_right (eqb a b) (same_bytes l m) e))

-- a test that holds exactly of equal bytes
pub same-is : (a b : List ℕ) (r : Bool) → (r ≡ true → a ≡ b) × (a ≡ b → r ≡ true) → r ≡ same_bytes a b
same-is a b true p = sym (ap (same_bytes a) (sym (p.0 refl)) ∙ bytes_same a)
same-is a b false p = go (same_bytes a b) refl
  where
    go : (t : Bool) → same_bytes a b ≡ t → false ≡ same_bytes a b
    go true e = absurd (false≢true (p.1 (same_bytes_lem a b e)))
    go false e = sym e

answer-same : (t : Result ℕ Refusal) → same_answer t t ≡ true
answer-same t = bytes_same (traced_values t)

-- no refusal has the number 0
module _ {a b : Result ℕ Refusal} {r : Refusal} {m : ℕ} (p : a ≡ Err r) (q : b ≡ Ok m) where
  pub second-lines : false ≡ same_answer a b
  second-lines =
      sym (ap₂ same_answer p q
      ∙ ap (λ (x : Bool). x && same_bytes (place_of r ∷ 0 ∷ []) (0 ∷ m ∷ [])) (ne_eqb (number_of r) 0 (refusal-number r)))

-- three tests in a row: the second fails, or the third decides
pub second-fails : (x y z : Bool) → x ≡ true → y ≡ false → false ≡ (x && (y && z))
second-fails x y z e f = sym (ap₂ (λ (a b : Bool). a && (b && z)) e f)

pub third-decides : (x y z : Bool) → x ≡ true → y ≡ true → z ≡ (x && (y && z))
third-decides x y z e f = sym (ap₂ (λ (a b : Bool). a && (b && z)) e f)

-- of scratch only the length counts
module _ (e : TraceEntry) (t : List ℕ) (same : length t ≡ length e.circuit.scratch) where
  abbrev again : TraceEntry
  again = record {
    circuit = record { counts = e.circuit.counts; tables = e.circuit.tables; scratch = t };
    state = e.state;
    vectors = e.vectors;
    out = e.out;
  }

  exits : (o : Option Refusal) → traced_by o again ≡ traced_by o e
  exits None = λ j. record {
    answer = Ok (length (next_lines e));
    scratch = replicate (same j) 0;
    state = map code_of (state_after (given_circuit e.circuit) (map value_of e.state) (next_lines e));
    out = put e.out 0 (step_lines (run (given_circuit e.circuit) (map value_of e.state) (next_lines e)));
  }
  exits (Some r) = λ j. record { answer = Err r; scratch = replicate (same j) 0; state = e.state; out = e.out }

  -- what is refused, by the length of scratch
  abbrev refusal : ℕ → Option Refusal
  refusal k =
      first_of (stages e.circuit (against 1 (words_to_work e.circuit.counts) (lengths_in (sizes_of e.circuit.tables) k))
      ++ (order_stage e.circuit ∷ trace_stage e ∷ []))

  pub trace-again : trace again ≡ trace e
  trace-again = ap (λ (o : Option Refusal). traced_by o again) (ap refusal same) ∙ exits (refusal (length e.circuit.scratch))

scratch-long : (e : TraceEntry) (o : Option Refusal) → length (traced_by o e).scratch ≡ length e.circuit.scratch
scratch-long e None = length-replicate (length e.circuit.scratch) 0
scratch-long e (Some r) = length-replicate (length e.circuit.scratch) 0

module _ (e : CompareEntry) (few : e.part.circuit.counts.A ≤ 24) (twins : e.twin ≡ e.part.state) (buffers : e.again ≡ e.part.out) where
  abbrev stepped : TraceExit
  stepped = trace e.part

  as_long : length stepped.scratch ≡ length e.part.circuit.scratch
  as_long = scratch-long e.part (answer e.part.circuit (trace_stage e.part))

  plain-too : plain_trace (twin_of e stepped.scratch) ≡ stepped
  plain-too =
      (λ j. plain_trace (record {
        circuit = record { counts = e.part.circuit.counts; tables = e.part.circuit.tables; scratch = stepped.scratch };
        state = twins j;
        vectors = e.part.vectors;
        out = buffers j;
      }))
      ∙ (same_lines (again e.part stepped.scratch as_long) few
      ∙ trace-again e.part stepped.scratch as_long)

  -- From the same state and buffer, and with at most 24 gates, the two engines never part: both leave what the stepper leaves, and its answer
  -- is the answer. So the comparer writes the tracer's lines.
  pub never-part : compare e ≡ record {
    answer = compared_by true stepped.answer;
    scratch = stepped.scratch;
    state = stepped.state;
    out = stepped.out;
    twin = stepped.state;
    again = stepped.out;
  }
  never-part =
      ap (both stepped) plain-too
      ∙ (λ j. record {
        answer = compared_by (same j) stepped.answer;
        scratch = stepped.scratch;
        state = stepped.state;
        out = stepped.out;
        twin = stepped.state;
        again = stepped.out;
      })
    where
      same : agree stepped stepped ≡ true
      same =
          sym (third-decides (same_answer stepped.answer stepped.answer) (same_bytes stepped.state stepped.state)
          (same_bytes stepped.out stepped.out) (answer-same stepped.answer) (bytes_same stepped.state))
          ∙ bytes_same stepped.out

-- a refusal: both engines refused, and left both states and both buffers as they were
refused-only : (t : Bool) (a : Result ℕ Refusal) (r : Refusal) → compared_by t a ≡ Err r → (t ≡ true) × (a ≡ Err r)
refused-only true (Ok k) r e = let z : ◌≡◌ {A = ℕ} 0 1 = cc in absurd (omega arith)
refused-only true (Err q) r e = let same : q ≡ r = cc in (refl, ap Err same)
refused-only false a r e = let z : ◌≡◌ {A = ℕ} 0 1 = cc in absurd (omega arith)

refused-too : (r : Refusal) (b : Result ℕ Refusal) → same_answer (Err r) b ≡ true → (s : Refusal) × (b ≡ Err s)
refused-too r (Ok m) e =
    absurd (false≢true (second-lines {a = Err r} {b = Ok m} {r = r} {m = m} refl refl ∙ e))
refused-too r (Err s) e = (s, refl)

pub compare-refused : (e : CompareEntry) (r : Refusal) → (compare e).answer ≡ Err r
    → ((compare e).state ≡ e.part.state) × ((compare e).out ≡ e.part.out) × ((compare e).twin ≡ e.twin) × ((compare e).again ≡ e.again)
compare-refused e r said =
    let a = trace e.part in
    let f : TraceEntry = twin_of e a.scratch in
    let b = plain_trace f in
    let x = refused-only (agree a b) a.answer r said in
    let rest = same_bytes a.state b.state && same_bytes a.out b.out in
    let y = refused-too r b.answer
    (ap (λ (t : Result ℕ Refusal). same_answer t b.answer) (sym x.1) ∙ and_left (same_answer a.answer b.answer) rest x.0) in
    let first = refused-leaves.tracing e.part r x.1 in
    let second = refused-leaves.plain-tracing f y.0 y.1 in
    (first.0, first.1, second.0, second.1)
