-- The body of the text form: the first part that is refused, or all of them.
use Prim.Native.Nat.{ℕ, zero}
use mathlib.Core.Path.{◌≡◌, refl, sym, ap, ◌∙◌, subst}
use mathlib.Core.Bool.{true}
use mathlib.Core.List.{List, [], ◌∷◌, ◌++◌, append_assoc, map}
use Rattle.std.specs.Prelude.{Result, Ok, Err}
use Rattle.plan.specs.declared.Counts.{Counts}
use Rattle.plan.specs.declared.Version.{Version}
use Rattle.plan.specs.declared.Refusal.{Refusal}
use Rattle.plan.specs.Literals.{var_of}
use Rattle.plan.specs.Refusals.{Parse, got, refused, ◌then◌}
use Rattle.plan.specs.Circuit.{Circuit, Tables, literal_of, latch_line, latch_of, gate_of, heads, flat, defined_in}
use Rattle.plan.specs.Bytes.{lines, latch_lines, reset_after, latch_form}
use Rattle.plan.specs.Header.{more_resets}
use Rattle.plan.specs.Text.{text_body}
use Rattle.plan.specs.Outcome.{put}
use Rattle.laws.proofs.Held.{Holds, BodySays}
use Rattle.laws.proofs.Marks.{Agrees}
use Rattle.laws.proofs.Reading.Common.{not-got, got-value}
use Rattle.laws.proofs.Reading.Rows.{one-back, flat-one, gate-back}
use Rattle.lines.specs.outputs.Observed.{observed_at}
use Rattle.lines.proofs.outputs.Answers.{Read, Answered, was_read, was-refused}
use Rattle.lines.proofs.outputs.Lists.{AllHeld, regroup}
use Rattle.lines.specs.text.Said.{TextSays}
use Rattle.lines.proofs.text.Parts.{RowsHeld, LatchesHeld}

-- the variables that inputs and latches define
abbrev pub both : List (List ℕ) → List (List ℕ) → List ℕ
both ins lats = heads ins ++ heads lats

heads-latches : (rows : List (List ℕ)) → heads (map latch_line (map latch_of rows)) ≡ heads rows
heads-latches [] = refl
heads-latches (row ∷ rows) = ap (λ (x : List ℕ). var_of (literal_of row) ∷ x) (heads-latches rows)

-- the body with the three lists that are observed as one part
text-is : (v : Version) (file : List ℕ) (n : Counts) (at : ℕ) → text_body v file n at
    ≡ (lines file 1 true n.M n.I [] at then λ ins at.
    latch_lines file (latch_form 2 true (more_resets v)) n.M n.L zero (heads ins) at then λ lats at.
    observed_at file n at then λ o at.
    lines file 3 true n.M n.A (heads ins ++ heads lats) at then λ gates at.
    got (record {
      M = n.M;
      inputs = map literal_of ins;
      latches = map latch_of lats;
      resets = map (reset_after 2) lats;
      outputs = o.outputs;
      bads = o.bads;
      constraints = o.constraints;
      gates = map gate_of gates;
    }) at)
text-is v file n at = λ i.
    lines file 1 true n.M n.I [] at then λ ins at.
    latch_lines file (latch_form 2 true (more_resets v)) n.M n.L zero (heads ins) at then λ lats at.
    regroup file n at (λ outs bads cons at.
    lines file 3 true n.M n.A (heads ins ++ heads lats) at then λ gates at.
    got (record {
      M = n.M;
      inputs = map literal_of ins;
      latches = map latch_of lats;
      resets = map (reset_after 2) lats;
      outputs = outs;
      bads = bads;
      constraints = cons;
      gates = map gate_of gates;
    }) at) i

module _ (v : Version) (file : List ℕ) (n : Counts) (at : ℕ) (t : Tables) (r : Result ℕ Refusal) (t' : Tables) (marks : List ℕ) where
  abbrev Says : Type 0
  Says = TextSays v file n at t r t' marks

  says-refused : (q : Refusal) → text_body v file n at ≡ refused q → r ≡ Err q → Says
  says-refused q e told = record {
    body = subst (λ (p : Parse Circuit). BodySays t p r t') (sym e) told;
    marked = λ c next accepted. absurd (not-got q c next (sym e ∙ accepted));
  }

  pub inputs-refused : {q : Refusal} → lines file 1 true n.M n.I [] at ≡ refused q → r ≡ Err q → Says
  inputs-refused {q} stop told = says-refused q (text-is v file n at ∙ rw stop) told

  -- the inputs are read
  module _ {p₁ : ℕ} {marks₁ : List ℕ}
      (a₁ : Read (RowsHeld 1 n.M [] t.inputs t'.inputs marks₁) (lines file 1 true n.M n.I [] at) p₁) where
    pub latches-refused : {q : Refusal} → latch_lines file (latch_form 2 true (more_resets v)) n.M n.L zero (heads a₁.value) p₁ ≡ refused q
        → r ≡ Err q → Says
    latches-refused {q} stop told = says-refused q (text-is v file n at ∙ rw (a₁.whole, stop)) told

    -- the latches are read
    module _ {p₂ : ℕ} {marks₂ : List ℕ}
        (a₂ : Read (LatchesHeld n.M (heads a₁.value) t.latches t.resets t'.latches t'.resets marks₂)
        (latch_lines file (latch_form 2 true (more_resets v)) n.M n.L zero (heads a₁.value) p₁) p₂) where
      pub observed-refused : {q : Refusal} → observed_at file n p₂ ≡ refused q → r ≡ Err q → Says
      observed-refused {q} stop told = says-refused q (text-is v file n at ∙ rw (a₁.whole, a₂.whole, stop)) told

      -- what is observed is read
      module _ {p₃ : ℕ} {marks₃ : List ℕ}
          (a₃ : Read (AllHeld n.M (both a₁.value a₂.value) t.outputs t.bads t.constraints t'.outputs t'.bads
          t'.constraints marks₃) (observed_at file n p₂) p₃) where
        gates-refused : {q : Refusal} → lines file 3 true n.M n.A (both a₁.value a₂.value) p₃ ≡ refused q → r ≡ Err q → Says
        gates-refused {q} stop told = says-refused q (text-is v file n at ∙ rw (a₁.whole, a₂.whole, a₃.whole, stop)) told

        -- the gates are read
        all_read : {next : ℕ} → Read (RowsHeld 3 n.M (both a₁.value a₂.value) t.gates t'.gates marks)
            (lines file 3 true n.M n.A (both a₁.value a₂.value) p₃) next → r ≡ Ok next → Says
        all_read {next} a₄ told =
            let made : Circuit = record {
              M = n.M;
              inputs = map literal_of a₁.value;
              latches = map latch_of a₂.value;
              resets = map (reset_after 2) a₂.value;
              outputs = a₃.value.outputs;
              bads = a₃.value.bads;
              constraints = a₃.value.constraints;
              gates = map gate_of a₄.value;
            } in
            let whole : text_body v file n at ≡ got made next = text-is v file n at ∙ rw (a₁.whole, a₂.whole, a₃.whole, a₄.whole) in
            let gates-back = gate-back a₄.value a₄.held.long in
            let holds : Holds t made t' = record {
              inputs = a₁.held.held ∙ ap (put t.inputs 0) (flat-one a₁.value a₁.held.long);
              latches = a₂.held.held;
              outputs = a₃.held.outputs;
              gates = a₄.held.held ∙ ap (λ (x : List (List ℕ)). put t.gates 0 (flat x)) (sym gates-back);
              resets = a₂.held.kept;
              bads = a₃.held.bads;
              constraints = a₃.held.constraints;
            } in
            let defined : defined_in made ≡ both a₁.value a₂.value ++ heads a₄.value
            = rw (one-back a₁.value a₁.held.long, heads-latches a₂.value, gates-back)
            (sym (append_assoc (heads a₁.value) (heads a₂.value) (heads a₄.value))) in
            record {
              body = subst (λ (p : Parse Circuit). BodySays t p r t') (sym whole) (told, holds);
              marked = λ c after accepted.
                  let same : made ≡ c = got-value made c next after (sym whole ∙ accepted) in
                  subst (λ (x : List ℕ). Agrees n.M x marks) (sym defined ∙ ap defined_in same) a₄.held.agrees;
            }

        pub gates-last : Answered (RowsHeld 3 n.M (both a₁.value a₂.value) t.gates t'.gates marks)
            (lines file 3 true n.M n.A (both a₁.value a₂.value) p₃) r → Says
        gates-last says = go r refl
          where
            go : (x : Result ℕ Refusal) → r ≡ x → Says
            go (Ok next) e = all_read (was_read _ (lines file 3 true n.M n.A (both a₁.value a₂.value) p₃) r next says e) e
            go (Err q) e = gates-refused (was-refused _ (lines file 3 true n.M n.A (both a₁.value a₂.value) p₃) r q says e) e
