-- The body of the binary form: the first part that is refused, or all of them and what the tables then hold.
use Prim.Native.Nat.{ℕ, ◌+◌}
use mathlib.Core.Path.{◌≡◌, refl, sym, ◌∙◌, subst}
use mathlib.Core.Bool.{false}
use mathlib.Core.List.{List, [], map}
use Rattle.std.specs.Prelude.{Result, Ok, Err}
use Rattle.plan.specs.declared.Counts.{Counts}
use Rattle.plan.specs.declared.Version.{Version}
use Rattle.plan.specs.declared.Refusal.{Refusal}
use Rattle.plan.specs.Refusals.{Parse, got, refused, ◌then◌}
use Rattle.plan.specs.Circuit.{Circuit, Tables, literal_of}
use Rattle.plan.specs.Bytes.{latch_lines, reset_after, latch_form}
use Rattle.plan.specs.Header.{more_resets}
use Rattle.plan.specs.Binary.{gates_from, lits_from, latches_from, binary_body}
use Rattle.plan.specs.Outcome.{put}
use Rattle.laws.proofs.Held.{Holds, BodySays}
use Rattle.lines.specs.outputs.Observed.{observed_at}
use Rattle.lines.proofs.outputs.Answers.{Read, Answered, was_read, was-refused}
use Rattle.lines.proofs.outputs.Lists.{AllHeld, regroup}
use Rattle.lines.proofs.binary.Parts.{LatchesHeld, GatesHeld}

-- the body with the three lists that are observed as one part
binary-is : (v : Version) (file : List ℕ) (n : Counts) (at : ℕ) → binary_body v file n at
    ≡ (latch_lines file (latch_form 1 false (more_resets v)) n.M n.L (1 + n.I) [] at then λ lats at.
    observed_at file n at then λ o at.
    gates_from file n.A (1 + n.I + n.L) at then λ gates at.
    got (record {
      M = n.M;
      inputs = lits_from 1 n.I;
      latches = latches_from (1 + n.I) (map literal_of lats);
      resets = map (reset_after 1) lats;
      outputs = o.outputs;
      bads = o.bads;
      constraints = o.constraints;
      gates = gates;
    }) at)
binary-is v file n at = λ i.
    latch_lines file (latch_form 1 false (more_resets v)) n.M n.L (1 + n.I) [] at then λ lats at.
    regroup file n at (λ outs bads cons at.
    gates_from file n.A (1 + n.I + n.L) at then λ gates at.
    got (record {
      M = n.M;
      inputs = lits_from 1 n.I;
      latches = latches_from (1 + n.I) (map literal_of lats);
      resets = map (reset_after 1) lats;
      outputs = outs;
      bads = bads;
      constraints = cons;
      gates = gates;
    }) at) i

module _ (v : Version) (file : List ℕ) (n : Counts) (at : ℕ) (t : Tables) (r : Result ℕ Refusal) (t' : Tables) where
  abbrev Says : Type 0
  Says = BodySays t (binary_body v file n at) r t'

  says-refused : (q : Refusal) → binary_body v file n at ≡ refused q → r ≡ Err q → Says
  says-refused q e told = subst (λ (p : Parse Circuit). BodySays t p r t') (sym e) told

  pub latches-refused : {q : Refusal} → latch_lines file (latch_form 1 false (more_resets v)) n.M n.L (1 + n.I) [] at ≡ refused q → r ≡ Err q → Says
  latches-refused {q} stop told = says-refused q (binary-is v file n at ∙ rw stop) told

  -- the latches are read
  module _ {p₁ : ℕ} {seen marks₁ : List ℕ}
      (a₁ : Read (LatchesHeld n.M (1 + n.I) seen t.latches t.resets t'.latches t'.resets marks₁)
      (latch_lines file (latch_form 1 false (more_resets v)) n.M n.L (1 + n.I) [] at) p₁) where
    pub observed-refused : {q : Refusal} → observed_at file n p₁ ≡ refused q → r ≡ Err q → Says
    observed-refused {q} stop told = says-refused q (binary-is v file n at ∙ rw (a₁.whole, stop)) told

    -- what is observed is read
    module _ {p₂ : ℕ} {marks₂ : List ℕ}
        (a₂ : Read (AllHeld n.M seen t.outputs t.bads t.constraints t'.outputs t'.bads t'.constraints marks₂)
        (observed_at file n p₁) p₂) where
      gates-refused : {q : Refusal} → gates_from file n.A (1 + n.I + n.L) p₂ ≡ refused q → r ≡ Err q → Says
      gates-refused {q} stop told = says-refused q (binary-is v file n at ∙ rw (a₁.whole, a₂.whole, stop)) told

      module _ (run : t'.inputs ≡ put t.inputs 0 (lits_from 1 n.I)) where
        all_read : {next : ℕ} → Read (GatesHeld t.gates t'.gates) (gates_from file n.A (1 + n.I + n.L) p₂) next → r ≡ Ok next → Says
        all_read {next} a₃ told =
            let made : Circuit = record {
              M = n.M;
              inputs = lits_from 1 n.I;
              latches = latches_from (1 + n.I) (map literal_of a₁.value);
              resets = map (reset_after 1) a₁.value;
              outputs = a₂.value.outputs;
              bads = a₂.value.bads;
              constraints = a₂.value.constraints;
              gates = a₃.value;
            } in
            let whole : binary_body v file n at ≡ got made next = binary-is v file n at ∙ rw (a₁.whole, a₂.whole, a₃.whole) in
            let holds : Holds t made t' = record {
              inputs = run;
              latches = a₁.held.held;
              outputs = a₂.held.outputs;
              gates = a₃.held;
              resets = a₁.held.kept;
              bads = a₂.held.bads;
              constraints = a₂.held.constraints;
            } in
            subst (λ (p : Parse Circuit). BodySays t p r t') (sym whole) (told, holds)

        pub gates-last : Answered (GatesHeld t.gates t'.gates) (gates_from file n.A (1 + n.I + n.L) p₂) r → Says
        gates-last says = go r refl
          where
            go : (x : Result ℕ Refusal) → r ≡ x → Says
            go (Ok next) e = all_read (was_read _ (gates_from file n.A (1 + n.I + n.L) p₂) r next says e) e
            go (Err q) e = gates-refused (was-refused _ (gates_from file n.A (1 + n.I + n.L) p₂) r q says e) e
