-- What a buffer of marks means, over the call: where the explainer answers without a refusal, all that its theorems ask holds.
use Prim.Native.Nat.{ℕ, zero, suc, ◌+◌, ◌<◌}
use mathlib.Core.Path.{◌≡◌, refl, sym, ap, ◌∙◌}
use mathlib.Core.Bool.{true, not, false≢true}
use mathlib.Core.Logic.{◌↔◌}
use mathlib.Core.List.{List, [], ◌∷◌, ◌++◌, map}
use Rattle.std.specs.Prelude.{Ok, Option, None}
use native.Mathlib.Omega.{arith}
use native.Mathlib.Nat.{not-suc-le-zero}
use borrow.Author.Tests.{eqb-true}
use lib.Dec.{eqb, ltb}
use lib.ListN.{length, get_or, take, drop, length-map, get_or-append}
use lib.Seq.{take_at, drop_at}
use Rattle.plan.specs.declared.Counts.{Counts}
use Rattle.plan.specs.declared.Refusal.{Refusal}
use Rattle.plan.specs.declared.Refusal.TheVariants.{BadVector, NotExplained, NotInOrder}
use Rattle.plan.specs.Refusals.{first_of}
use Rattle.plan.specs.Circuit.{Circuit, counts_of}
use Rattle.plan.specs.Binary.{binary_order}
use Rattle.plan.specs.Given.{given_circuit, lent_alone, failing, failing_at, stages, order_stage, room_stage}
use Rattle.plan.specs.Step.{Value, v0, v1, vx, value_of, lit, values_of, outputs_of, same}
use Rattle.plan.specs.Outcome.{all_codes}
use Rattle.laws.proofs.Reading.Common.{and_left}
use Rattle.laws.proofs.Writing.Nothing.{stepped-none, stage-none, at_none, failing-none, or-none, first-all, first-both}
use Rattle.laws.proofs.Writing.Fine.{Fine, nothing-fine, counts-given}
use Rattle.plan.specs.Explain.{Blamed, places, only_state, only_inputs, ExplainEntry, state_of, inputs_of, asked, value_asked, marks_asked, vectors_stage, output_stage, explained_by, explain}
use Rattle.laws.proofs.Explaining.Explained.{explain-keeps}
use Rattle.laws.proofs.Explaining.Marked.{length-places, marks-exactly, marks-zero, marks-known}

-- the buffer afterwards, in the request's words: marks exactly where the walk comes and "0" on every other place; marks only on places that held
-- 0 or 1; with every unmarked place turned to x the output keeps its value; and no other byte changes
pub record Meant (e : ExplainEntry) : Type 0 where
  pub exactly : (k : ℕ) → k < e.circuit.counts.L + e.circuit.counts.I
      → (get_or (explain e).marks k 48 ≡ 49) ↔ Blamed (given_circuit e.circuit) (state_of e) (inputs_of e) (asked e) (get_or (places (given_circuit e.circuit)) k 0)
  pub zero-else : (k : ℕ) → k < e.circuit.counts.L + e.circuit.counts.I
      → (get_or (explain e).marks k 0 ≡ 48) ↔ ¬ Blamed (given_circuit e.circuit) (state_of e) (inputs_of e) (asked e) (get_or (places (given_circuit e.circuit)) k 0)
  pub known : (k : ℕ) → k < e.circuit.counts.L + e.circuit.counts.I → get_or (explain e).marks k 48 ≡ 49
      → get_or (state_of e ++ inputs_of e) k vx ≡ vx → ⊥
  pub keeps : let c = given_circuit e.circuit in
      let marks = take (e.circuit.counts.L + e.circuit.counts.I) (explain e).marks in
      lit (values_of c (only_state c marks (state_of e)) (only_inputs c marks (inputs_of e))) (asked e) ≡ value_asked e
  pub others : let n = e.circuit.counts in drop (n.L + n.I) (explain e).marks ≡ drop (n.L + n.I) e.marks

value-at : (f : ℕ → Value) (ls : List ℕ) (k : ℕ) → k < length ls → f (get_or ls k 0) ≡ get_or (map f ls) k vx
value-at f [] k h = absurd (not-suc-le-zero h)
value-at f (l ∷ ls) zero h = refl
value-at f (l ∷ ls) (suc k) h = value-at f ls k (omega arith)

-- what is explained is the value that a step shows at that place
pub asked-shown : (e : ExplainEntry) → e.output < length (given_circuit e.circuit).outputs
    → value_asked e ≡ get_or (outputs_of (given_circuit e.circuit) (state_of e) (inputs_of e)) e.output vx
asked-shown e = value-at (lit (values_of (given_circuit e.circuit) (state_of e) (inputs_of e))) (given_circuit e.circuit).outputs e.output

x-not : (a : Value) → not (same a vx) ≡ true → a ≡ vx → ⊥
x-not v0 h q = let z : ◌≡◌ {A = ℕ} 0 1 = cc in omega arith
x-not v1 h q = let z : ◌≡◌ {A = ℕ} 0 1 = cc in omega arith
x-not vx h q = false≢true h

module _ (e : ExplainEntry) (done : (explain e).answer ≡ Ok tt) where
  abbrev c : Circuit
  c = given_circuit e.circuit

  abbrev n : Counts
  n = e.circuit.counts

  abbrev first : List (Option Refusal)
  first = stages e.circuit (lent_alone e.circuit)

  abbrev rest : List (Option Refusal)
  rest = order_stage e.circuit ∷ vectors_stage e ∷ output_stage e ∷ room_stage e.marks (marks_asked e) ∷ []

  nothing : first_of (first ++ rest) ≡ None
  nothing = stepped-none (λ o. (explained_by o e).answer) (λ r. refl) (first_of (first ++ rest)) done

  fine : Fine e.circuit (lent_alone e.circuit)
  fine = nothing-fine e.circuit (lent_alone e.circuit) (first-both first rest nothing).0

  counts : counts_of c ≡ n
  counts = counts-given e.circuit fine.room

  last : (order_stage e.circuit ≡ None) × (vectors_stage e ≡ None) × (output_stage e ≡ None)
  last = let a = first-all rest (first-both first rest nothing).1 in (a.0, a.1.0, a.1.1.0)

  order : binary_order c ≡ true
  order = failing-none (binary_order c) (stage-none NotInOrder (failing (binary_order c)) last.0)

  vectors : (length e.state ≡ n.L) × (length e.inputs ≡ n.I)
  vectors =
      let p = or-none _ _ (stage-none BadVector _ last.1) in (
        eqb-true _ _ (and_left (eqb (length e.state) n.L) (all_codes e.state) (at_none 1 _ p.0)),
        eqb-true _ _ (and_left (eqb (length e.inputs) n.I) (all_codes e.inputs) (at_none 2 _ p.1)),
      )

  not-x : value_asked e ≡ vx → ⊥
  not-x =
      let there = failing_at 1 (ltb e.output n.O) in
      let known = not (same (value_asked e) vx) in
      x-not (value_asked e) (at_none 2 known (or-none there (failing_at 2 known) (stage-none NotExplained _ last.2)).1)

  state-long : length (state_of e) ≡ length c.latches
  state-long = length-map e.state value_of ∙ vectors.0 ∙ sym (ap (λ (x : Counts). x.L) counts)

  inputs_long : length (inputs_of e) ≡ length c.inputs
  inputs_long = length-map e.inputs value_of ∙ vectors.1 ∙ sym (ap (λ (x : Counts). x.I) counts)

  all-places : length (places c) ≡ n.L + n.I
  all-places = length-places c ∙ ap (λ (x : Counts). x.L + x.I) counts

  all-marks : length (marks_asked e) ≡ n.L + n.I
  all-marks = length-map (places c) _ ∙ all-places

  -- the marks, and then the buffer as it came
  buffer : (explain e).marks ≡ marks_asked e ++ drop (0 + length (marks_asked e)) e.marks
  buffer = ap (λ (o : Option Refusal). (explained_by o e).marks) nothing

  mark-at : (k d : ℕ) → k < n.L + n.I → get_or (explain e).marks k d ≡ get_or (marks_asked e) k d
  mark-at k d h = ap (λ (l : List ℕ). get_or l k d) buffer ∙ get_or-append (marks_asked e) _ d k (omega (arith, all-marks))

  pub done-meant : Meant e
  done-meant = record {
    exactly = λ k h.
        let x = marks-exactly c fine.formed order (state_of e) (inputs_of e) state-long inputs_long (asked e) not-x k (omega (arith, all-places)) in
        (λ q. x.0 (sym (mark-at k 48 h) ∙ q), λ b. mark-at k 48 h ∙ x.1 b);
    zero-else = λ k h.
        let x = marks-zero c fine.formed order (state_of e) (inputs_of e) state-long inputs_long (asked e) not-x k (omega (arith, all-places)) in
        (λ q. x.0 (sym (mark-at k 0 h) ∙ q), λ b. mark-at k 0 h ∙ x.1 b);
    known = λ k h q.
        marks-known c fine.formed order (state_of e) (inputs_of e) state-long inputs_long (asked e) not-x k (omega (arith, all-places))
        (sym (mark-at k 48 h) ∙ q);
    keeps =
        ap (λ (m : List ℕ). lit (values_of c (only_state c m (state_of e)) (only_inputs c m (inputs_of e))) (asked e)) first_marks
        ∙ explain-keeps c fine.formed order (state_of e) (inputs_of e) state-long inputs_long (asked e) not-x;
    others = ap (drop (n.L + n.I)) buffer ∙ drop_at (marks_asked e) _ (n.L + n.I) all-marks ∙ ap (λ (k : ℕ). drop k e.marks) past;
  }
    where
      first_marks : take (n.L + n.I) (explain e).marks ≡ marks_asked e
      first_marks = ap (take (n.L + n.I)) buffer ∙ take_at (marks_asked e) (drop (0 + length (marks_asked e)) e.marks) (n.L + n.I) all-marks

      past : 0 + length (marks_asked e) ≡ n.L + n.I
      past = omega (arith, all-marks)
