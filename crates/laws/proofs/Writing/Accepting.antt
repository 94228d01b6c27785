-- Tables that a read, a conversion or a reduction left are refused by no later call: the writers with a buffer of the length needed, the
-- conversion and the reduction with tables as long as the counts ask, the stepper and the witness question with vectors of the right form.
use Prim.Native.Nat.{ℕ, ◌+◌, ◌*◌, ◌≤◌}
use mathlib.Core.Path.{◌≡◌, sym, ap, ap₂, ◌∙◌, subst}
use mathlib.Core.Bool.{true}
use mathlib.Core.List.{List, [], ◌∷◌, ◌++◌, map}
use Rattle.std.specs.Prelude.{Ok, Option, None}
use native.Mathlib.Omega.{arith}
use borrow.Author.Tests.{le-leb, eq-eqb}
use lib.Dec.{eqb}
use lib.ListN.{length}
use Rattle.plan.specs.declared.Version.TheVariants.{V19}
use Rattle.plan.specs.declared.Counts.{Counts}
use Rattle.plan.specs.declared.Refusal.{Refusal}
use Rattle.plan.specs.Refusals.{first_of}
use Rattle.plan.specs.Circuit.{Circuit, Tables, counts_of, words_to_work, against, least_short, lengths_of, cleared}
use Rattle.plan.specs.Text.{text_of}
use Rattle.plan.specs.Binary.{binary_of, binary_order}
use Rattle.plan.specs.Tail.{TailOk}
use Rattle.plan.specs.Reading.{WellFormed}
use Rattle.plan.specs.Given.{Given, given_circuit, lent_alone, lent_with, stages, order_stage, refusal_of, tail_stage, room_stage}
use Rattle.plan.specs.Convert.{convert}
use Rattle.plan.specs.Reduce.{reduce}
use Rattle.plan.specs.Step.{code_of, value_of, outputs_of, next_of, witnessed}
use Rattle.plan.specs.Outcome.{FileEntry, written_by, write_text, write_binary, made_by, conversion, reduction, all_codes, StepEntry, step_stage, stepped_by}
use Rattle.plan.specs.Outcome.{step, WitnessEntry, verdict_by, list_stage, witness3}
use Rattle.laws.proofs.Reading.Short.{short_none, long-both}
use Rattle.laws.proofs.Reading.Tails.{tail-exactly}
use Rattle.laws.proofs.Writing.Nothing.{both_first}
use Rattle.laws.proofs.Writing.Fine.{nothing-fine, fine-nothing}
use Rattle.laws.proofs.Writing.Holding.{formed-fine}
use Rattle.laws.proofs.Writing.Later.{Left}

module _ (g : Given) (c : Circuit) (l : Left g c) where
  well : WellFormed c
  well = subst WellFormed l.holds (nothing-fine g (lent_alone g) l.fine).formed

  tail-passes : (tail : List ℕ) → TailOk V19 (counts_of c) tail → tail_stage g tail ≡ None
  tail-passes tail t =
      let r = (tail-exactly V19 tail g.counts 0).1 (subst (λ (n : Counts). TailOk V19 n tail) (sym l.counts) t) in
      ap refusal_of r.2

  room-passes : (out bytes : List ℕ) → length bytes ≤ length out → room_stage out bytes ≡ None
  room-passes out bytes h = let long : 0 + length bytes ≤ length out = omega arith in rw (le-leb (0 + length bytes) (length out) long)

  order-passes : binary_order c ≡ true → order_stage g ≡ None
  order-passes o = let e : binary_order (given_circuit g) ≡ true = ap binary_order l.holds ∙ o in rw e

  -- the writers
  module _ (tail out : List ℕ) (t : TailOk V19 (counts_of c) tail) where
    abbrev entry : FileEntry
    entry = record { circuit = g; tail = tail; out = out }

    pub text-accepted : length (text_of c ++ tail) ≤ length out → (write_text entry).answer ≡ Ok (length (text_of c ++ tail))
    text-accepted h =
        let bytes = text_of (given_circuit g) ++ tail in
        let same : text_of (given_circuit g) ++ tail ≡ text_of c ++ tail = ap (λ (x : Circuit). text_of x ++ tail) l.holds in
        let rest : first_of (tail_stage g tail ∷ room_stage out bytes ∷ []) ≡ None
        = rw (tail-passes tail t) (ap (λ (x : Option Refusal). first_of (x ∷ []))
        (room-passes out bytes (subst (λ (x : List ℕ). length x ≤ length out) (sym same) h))) in
        ap (λ (o : Option Refusal). (written_by o entry bytes).answer)
        (both_first (stages g (lent_alone g)) (tail_stage g tail ∷ room_stage out bytes ∷ []) l.fine ∙ rest)
        ∙ ap (λ (x : List ℕ). Ok (length x)) same

    pub binary-accepted : binary_order c ≡ true → length (binary_of c ++ tail) ≤ length out
        → (write_binary entry).answer ≡ Ok (length (binary_of c ++ tail))
    binary-accepted o h =
        let bytes = binary_of (given_circuit g) ++ tail in
        let same : binary_of (given_circuit g) ++ tail ≡ binary_of c ++ tail = ap (λ (x : Circuit). binary_of x ++ tail) l.holds in
        let rest : first_of (order_stage g ∷ tail_stage g tail ∷ room_stage out bytes ∷ []) ≡ None
        = rw (order-passes o, tail-passes tail t) (ap (λ (x : Option Refusal). first_of (x ∷ []))
        (room-passes out bytes (subst (λ (x : List ℕ). length x ≤ length out) (sym same) h))) in
        ap (λ (x : Option Refusal). (written_by x entry bytes).answer)
        (both_first (stages g (lent_alone g)) (order_stage g ∷ tail_stage g tail ∷ room_stage out bytes ∷ []) l.fine ∙ rest)
        ∙ ap (λ (x : List ℕ). Ok (length x)) same

  -- conversion and reduction
  module _ (t : Tables) (long : least_short (against 1 (words_to_work (counts_of c)) (lengths_of t g.scratch)) ≡ None) where
    both_long : first_of (stages g (lent_with g t)) ≡ None
    both_long =
        let own = (short_none (lent_alone g)).0 (nothing-fine g (lent_alone g) l.fine).room in
        let lent = against 1 (words_to_work g.counts) (lengths_of t g.scratch) in
        let more = (short_none lent).0 (ap (λ (n : Counts). least_short (against 1 (words_to_work n) (lengths_of t g.scratch))) l.counts ∙ long) in
        let all = (short_none (lent_alone g ++ lent)).1 (long-both (lent_alone g) lent own more) in
        fine-nothing g (lent_with g t) (formed-fine g (lent_with g t) c l.holds l.counts well all)

    pub conversion-accepted : (conversion (record { circuit = g; written = t })).answer ≡ Ok (counts_of (convert c))
    conversion-accepted =
        ap (λ (o : Option Refusal). (made_by o (record { circuit = g; written = t }) (convert (given_circuit g))).answer) both_long
        ∙ ap (λ (x : Circuit). Ok (counts_of (convert x))) l.holds

    -- a call on circuits in binary order
    pub in-order-accepted : (make : Circuit → Circuit) → binary_order c ≡ true
        → (made_by (first_of (stages g (lent_with g t) ++ (order_stage g ∷ []))) (record { circuit = g; written = t }) (make (given_circuit g))).answer
        ≡ Ok (counts_of (make c))
    in-order-accepted make o =
        let last : first_of (order_stage g ∷ []) ≡ None = rw (order-passes o) in
        ap (λ (x : Option Refusal). (made_by x (record { circuit = g; written = t }) (make (given_circuit g))).answer)
        (both_first (stages g (lent_with g t)) (order_stage g ∷ []) both_long ∙ last)
        ∙ ap (λ (x : Circuit). Ok (counts_of (make x))) l.holds

    pub reduction-accepted : binary_order c ≡ true
        → (reduction (record { circuit = g; written = t })).answer ≡ Ok (counts_of (reduce c))
    reduction-accepted = in-order-accepted reduce

  -- the stepper: a step of the circuit
  module _ (o : binary_order c ≡ true) where
    pub step-done : (state ins outs : List ℕ) → length state ≡ length c.latches → all_codes state ≡ true → length ins ≡ length c.inputs
        → all_codes ins ≡ true → length outs ≡ length c.outputs
        → step (record { circuit = g; state = state; inputs = ins; outputs = outs }) ≡ record {
          answer = Ok tt;
          scratch = cleared g.scratch;
          state = map code_of (next_of c (map value_of state) (map value_of ins));
          outputs = map code_of (outputs_of c (map value_of state) (map value_of ins));
        }
    step-done state ins outs ls cs li ci lo =
        let entry : StepEntry = record { circuit = g; state = state; inputs = ins; outputs = outs } in
        let e1 : eqb (length state) g.counts.L ≡ true = eq-eqb _ _ (ls ∙ sym (ap (λ (n : Counts). n.L) l.counts)) in
        let e2 : eqb (length ins) g.counts.I ≡ true = eq-eqb _ _ (li ∙ sym (ap (λ (n : Counts). n.I) l.counts)) in
        let e3 : eqb (length outs) g.counts.O ≡ true = eq-eqb _ _ (lo ∙ sym (ap (λ (n : Counts). n.O) l.counts)) in
        let rest : first_of (order_stage g ∷ step_stage entry ∷ []) ≡ None = rw (order-passes o, e1, cs, e2, ci, e3) in
        ap (λ (x : Option Refusal). stepped_by x entry)
        (both_first (stages g (lent_alone g)) (order_stage g ∷ step_stage entry ∷ []) l.fine ∙ rest)
        ∙ λ i. record {
          answer = Ok tt;
          scratch = cleared g.scratch;
          state = map code_of (next_of (l.holds i) (map value_of state) (map value_of ins));
          outputs = map code_of (outputs_of (l.holds i) (map value_of state) (map value_of ins));
        }

    -- the witness question, of the circuit
    pub witness-answered : (number : ℕ) (bytes : List ℕ) → length bytes ≡ number * length c.inputs → all_codes bytes ≡ true
        → (witness3 (record { circuit = g; number = number; bytes = bytes })).answer ≡ verdict_by None (witnessed c number bytes)
    witness-answered number bytes lb cb =
        let entry : WitnessEntry = record { circuit = g; number = number; bytes = bytes } in
        let e1 : eqb (length bytes) (number * g.counts.I) ≡ true
        = eq-eqb _ _ (lb ∙ sym (ap (λ (n : Counts). number * n.I) l.counts)) in
        let rest : first_of (order_stage g ∷ list_stage entry ∷ []) ≡ None = rw (order-passes o, e1, cb) in
        ap₂ verdict_by (both_first (stages g (lent_alone g)) (order_stage g ∷ list_stage entry ∷ []) l.fine ∙ rest)
        (ap (λ (x : Circuit). witnessed x number bytes) l.holds)
