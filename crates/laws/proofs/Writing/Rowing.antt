-- Rows over the calls: row k of a step of rows is what the plain stepper does of the resets and the row's vector.
use Prim.Native.Nat.{ℕ, zero, suc, ◌+◌, ◌*◌, ◌≤◌, ◌<◌}
use mathlib.Core.Path.{◌≡◌, refl, sym, ap, ◌∙◌}
use mathlib.Core.Bool.{true, ◌&&◌}
use mathlib.Core.List.{List, [], ◌∷◌, ◌++◌, map}
use Rattle.std.specs.Prelude.{Ok, Option, None}
use native.Mathlib.Nat.{zero-mul, suc-mul}
use native.Mathlib.Omega.{arith}
use borrow.Author.Tests.{eqb-true}
use lib.Dec.{eqb}
use lib.ListN.{length, take, drop, length-map, length-drop}
use lib.Seq.{take_at, drop-append-add, drop-drop, length-take-le}
use Rattle.plan.specs.declared.Counts.{Counts}
use Rattle.plan.specs.declared.Refusal.{Refusal}
use Rattle.plan.specs.declared.Refusal.TheVariants.{NotInOrder, BadVector}
use Rattle.plan.specs.Refusals.{stage, first_of}
use Rattle.plan.specs.Circuit.{Circuit, counts_of, rows_of, flat, cleared}
use Rattle.plan.specs.Binary.{binary_order}
use Rattle.plan.specs.Given.{Given, given_circuit, lent_alone, failing, stages, order_stage, in_order_then, failing_at}
use Rattle.plan.specs.Step.{Value, code_of, value_of, is_code, lit, values_of, outputs_of, next_of, Step, step_of, first_state}
use Rattle.plan.specs.Outcome.{all_codes, vector_of, StepEntry, step}
use Rattle.plan.specs.Rows.{outputs_of_row, next_of_row, row_steps, many_rows, RowsEntry, RowsExit, row_vectors, row_stage, stepped_rows, step_rows}
use Rattle.laws.proofs.Reading.Common.{and_left, and_right, and_intro}
use Rattle.laws.proofs.Running.Resets.{first-length}
use Rattle.laws.proofs.Running.Runs.{next-length}
use Rattle.laws.proofs.Writing.Nothing.{stepped-none, stage-none, at_none, failing-none, first-all, first-both, or-none}
use Rattle.laws.proofs.Writing.Fine.{Fine, counts-given, nothing-fine}
use Rattle.laws.proofs.Writing.Later.{Left}
use Rattle.laws.proofs.Writing.Accepting.{step-done}
use Rattle.laws.proofs.Writing.Stepping.{codes-values, all_codes_lem}

-- row k of bytes that are laid row by row
chunk : (f : List ℕ → List ℕ) (w i n k : ℕ) (t : List ℕ) → ((x : List ℕ) → length (f x) ≡ w) → k < n
    → take w (drop (k * w) (flat (map f (rows_of i n t)))) ≡ f (take i (drop (k * i) t))
chunk f w i zero k t h b = absurd (omega arith)
chunk f w i (suc n) zero t h b =
    ap (λ (j : ℕ). take w (drop j (f (take i t) ++ flat (map f (rows_of i n (drop i t)))))) (zero-mul w)
    ∙ (take_at (f (take i t)) (flat (map f (rows_of i n (drop i t)))) w (h (take i t))
    ∙ ap (λ (j : ℕ). f (take i (drop j t))) (sym (zero-mul i)))
chunk f w i (suc n) (suc k) t h b =
    let x = f (take i t) in
    let rest = flat (map f (rows_of i n (drop i t))) in
    let at : suc k * w ≡ length x + k * w = suc-mul k w ∙ omega (arith, h (take i t)) in
    let from : i + k * i ≡ suc k * i = omega (arith, suc-mul k i) in
    ap (λ (j : ℕ). take w (drop j (x ++ rest))) at
    ∙ (ap (take w) (drop-append-add x rest (k * w))
    ∙ (chunk f w i n k (drop i t) h (omega arith)
    ∙ (ap (λ (l : List ℕ). f (take i l)) (drop-drop (k * i) i t) ∙ ap (λ (j : ℕ). f (take i (drop j t))) from)))

fused : (st : List Value → Step) (out : Step → List ℕ) (rows : List (List ℕ))
    → map out (map st (map (map value_of) rows)) ≡ map (λ (x : List ℕ). out (st (map value_of x))) rows
fused st out [] = refl
fused st out (row ∷ rows) = ap (λ (l : List (List ℕ)). out (st (map value_of row)) ∷ l) (fused st out rows)

codes-take : (k : ℕ) (l : List ℕ) → all_codes l ≡ true → all_codes (take k l) ≡ true
codes-take zero l h = refl
codes-take (suc k) [] h = refl
codes-take (suc k) (b ∷ l) h = and_intro (is_code b) _ (and_left (is_code b) _ h) (codes-take k l (and_right (is_code b) _ h))

codes-drop : (k : ℕ) (l : List ℕ) → all_codes l ≡ true → all_codes (drop k l) ≡ true
codes-drop zero l h = h
codes-drop (suc k) [] h = refl
codes-drop (suc k) (b ∷ l) h = codes-drop k l (and_right (is_code b) _ h)

room_in : (k n i len : ℕ) → k < n → len ≡ n * i → k * i + i ≤ len
room_in k zero i len h e = absurd (omega arith)
room_in zero (suc n) i len h e = omega (arith, zero-mul i, suc-mul n i)
room_in (suc k) (suc n) i len h e = omega (arith, room_in k n i (n * i) (omega arith) refl, suc-mul k i, suc-mul n i)

module _ (e : RowsEntry) (done : (step_rows e).answer ≡ Ok tt) where
  abbrev g : Given
  g = e.circuit

  abbrev n : Counts
  n = e.circuit.counts

  abbrev c : Circuit
  c = given_circuit e.circuit

  passed : first_of (in_order_then g (row_stage e ∷ [])) ≡ None
  passed = stepped-none (λ o. (stepped_rows o e).answer) (λ r. refl) (first_of (in_order_then g (row_stage e ∷ []))) done

  tables-pass : first_of (stages g (lent_alone g)) ≡ None
  tables-pass = (first-both (stages g (lent_alone g)) (order_stage g ∷ row_stage e ∷ []) passed).0

  fine : Fine g (lent_alone g)
  fine = nothing-fine g (lent_alone g) tables-pass

  pub counts : counts_of (given_circuit e.circuit) ≡ e.circuit.counts
  counts = counts-given g fine.room

  left : Left g c
  left = record { holds = refl; counts = sym counts; fine = tables-pass }

  order : binary_order c ≡ true
  order =
      let all = first-all (order_stage g ∷ row_stage e ∷ []) (first-both (stages g (lent_alone g)) (order_stage g ∷ row_stage e ∷ []) passed).1 in
      failing-none (binary_order c) (stage-none NotInOrder (failing (binary_order c)) all.0)

  pub inputs-good : (length e.inputs ≡ e.rows * e.circuit.counts.I) × (all_codes e.inputs ≡ true)
  inputs-good =
      let all = first-all (order_stage g ∷ row_stage e ∷ []) (first-both (stages g (lent_alone g)) (order_stage g ∷ row_stage e ∷ []) passed).1 in
      let row = first-all (many_rows e.rows ∷ stage BadVector (row_vectors e) ∷ []) all.1.0 in
      let vectors = stage-none BadVector (row_vectors e) row.1.0 in
      let rest = (or-none (failing_at 1 (eqb (length e.nexts) (e.rows * n.L))) _ vectors).1 in
      let mine = (or-none (vector_of 2 (e.rows * n.I) e.inputs) _ rest).0 in
      let both = at_none 2 (eqb (length e.inputs) (e.rows * n.I) && all_codes e.inputs) mine in
      (eqb-true _ _ (and_left (eqb (length e.inputs) (e.rows * n.I)) _ both), and_right (eqb (length e.inputs) (e.rows * n.I)) _ both)

  -- a part of the exit, row k of it
  part : (w : ℕ) (take_out : Step → List ℕ) (bytes : List ℕ) → bytes ≡ flat (map take_out (row_steps c e.rows e.inputs))
      → ((x : List Value) → length (take_out (step_of c (first_state c) x)) ≡ w) → (k : ℕ) → k < e.rows
      → take w (drop (k * w) bytes) ≡ take_out (step_of c (first_state c) (map value_of (take n.I (drop (k * n.I) e.inputs))))
  part w take_out bytes is long k small =
      let i = length c.inputs in
      let f : List ℕ → List ℕ = λ x. take_out (step_of c (first_state c) (map value_of x)) in
      ap (λ (l : List ℕ). take w (drop (k * w) l)) (is ∙ ap flat (fused (step_of c (first_state c)) take_out (rows_of i e.rows e.inputs)))
      ∙ (chunk f w i e.rows k e.inputs (λ x. long (map value_of x)) small
      ∙ ap (λ (j : ℕ). f (take j (drop (k * j) e.inputs))) (ap (λ (m : Counts). m.I) counts))

  pub exit : step_rows e ≡ stepped_rows None e
  exit = ap (λ (o : Option Refusal). stepped_rows o e) passed

  -- what the plain stepper is handed for row k: the same circuit, the resets, the row's vector, and any buffer of O bytes
  abbrev pub row_entry : ℕ → List ℕ → StepEntry
  row_entry k outs = record {
    circuit = e.circuit;
    state = map code_of (first_state (given_circuit e.circuit));
    inputs = take e.circuit.counts.I (drop (k * e.circuit.counts.I) e.inputs);
    outputs = outs;
  }

  pub row-is-step : (k : ℕ) → k < e.rows → (outs : List ℕ) → length outs ≡ e.circuit.counts.O
      → step (row_entry k outs) ≡ record {
        answer = Ok tt;
        scratch = cleared e.circuit.scratch;
        state = take e.circuit.counts.L (drop (k * e.circuit.counts.L) (step_rows e).nexts);
        outputs = take e.circuit.counts.O (drop (k * e.circuit.counts.O) (step_rows e).outputs);
      }
  row-is-step k small outs long =
      let ins = take n.I (drop (k * n.I) e.inputs) in
      let size : length (take n.I (drop (k * n.I) e.inputs)) ≡ n.I
      = length-take-le n.I (drop (k * n.I) e.inputs)
      (omega (arith, length-drop (k * n.I) e.inputs, room_in k e.rows n.I (length e.inputs) small inputs-good.0)) in
      let next-is : map code_of (next_of c (map value_of (map code_of (first_state c))) (map value_of ins)) ≡ take n.L (drop (k * n.L) (step_rows e).nexts)
      = ap (λ (s : List Value). map code_of (next_of c s (map value_of ins))) (codes-values (first_state c))
      ∙ sym (part n.L next_of_row (step_rows e).nexts (ap (λ (x : RowsExit). x.nexts) exit)
      (λ x. length-map (next_of c (first_state c) x) code_of ∙ (next-length c (first_state c) x ∙ ap (λ (m : Counts). m.L) counts)) k small) in
      let outs-is : map code_of (outputs_of c (map value_of (map code_of (first_state c))) (map value_of ins)) ≡ take n.O (drop (k * n.O) (step_rows e).outputs)
      = ap (λ (s : List Value). map code_of (outputs_of c s (map value_of ins))) (codes-values (first_state c))
      ∙ sym (part n.O outputs_of_row (step_rows e).outputs (ap (λ (x : RowsExit). x.outputs) exit)
      (λ x. length-map (outputs_of c (first_state c) x) code_of
      ∙ (length-map c.outputs (lit (values_of c (first_state c) x)) ∙ ap (λ (m : Counts). m.O) counts)) k small) in
      step-done g c left order (map code_of (first_state c)) ins outs (length-map (first_state c) code_of ∙ first-length c fine.formed) (all_codes_lem (first_state c))
      (size ∙ sym (ap (λ (m : Counts). m.I) counts)) (codes-take n.I (drop (k * n.I) e.inputs) (codes-drop (k * n.I) e.inputs inputs-good.1))
      (long ∙ sym (ap (λ (m : Counts). m.O) counts))
      ∙ λ j. record { answer = Ok tt; scratch = cleared e.circuit.scratch; state = next-is j; outputs = outs-is j }
