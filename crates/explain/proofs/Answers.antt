-- The outcome of an explanation, from what was told on the way.
use Prim.Native.Nat.{ℕ, ◌+◌, ◌-◌, ◌^◌, ◌<◌, ◌≤◌, min}
use mathlib.Core.Path.{◌≡◌, refl, sym, ap, ap₂, ◌∙◌}
use mathlib.Core.Bool.{Bool, true, false, not, cond}
use mathlib.Core.List.{List, [], ◌∷◌}
use Rattle.std.specs.Prelude.{Result, Ok, Err, Option, Some, None}
use native.Mathlib.Omega.{arith}
use borrow.Author.Tests.{eqb-true, eq-eqb, lt-ltb, le-ltb, lt-leb, le-leb}
use lib.Dec.{eqb, ltb, leb}
use lib.ListN.{length}
use Rattle.plan.specs.declared.Refusal.{Refusal}
use Rattle.plan.specs.declared.Refusal.TheVariants.{BadVector, NotExplained, ShortBuffer}
use Rattle.plan.specs.Refusals.{stage, first_of}
use Rattle.plan.specs.Circuit.{cleared}
use Rattle.plan.specs.Given.{or_else, failing_at, room_stage}
use Rattle.plan.specs.Step.{Value, v0, v1, vx, same}
use Rattle.plan.specs.Outcome.{put, all_codes, check_in_order}
use Rattle.laws.proofs.Reading.Common.{and_left}
use Rattle.laws.proofs.Writing.Nothing.{some-none}
use Rattle.step.proofs.codes.Places.{codes_in, first_bad}
use Rattle.step.proofs.Beyond.{answer, refused-by, past-check}
use Rattle.plan.specs.Explain.{ExplainEntry, ExplainExit, value_asked, marks_asked, vectors_stage, output_stage, explained_by, explain}
use Rattle.explain.specs.Asked.{Vectors, Explains}

not-x : (a : Value) → (a ≡ vx → ⊥) → same a vx ≡ false
not-x v0 h = refl
not-x v1 h = refl
not-x vx h = absurd (h refl)

-- 17 and 11, from what their tests tell
abbrev last_of : Bool → Bool → Bool → ℕ → Option Refusal
last_of there x fits k =
    first_of (stage NotExplained (or_else (failing_at 1 there) (failing_at 2 (not x))) ∷ stage ShortBuffer (cond fits None (Some k)) ∷ [])

module _ (e : ExplainEntry) where
  abbrev needed : ℕ
  needed = min (0 + length (marks_asked e)) (2 ^ 64 - 1)

  abbrev there : Bool
  there = ltb e.output e.circuit.counts.O

  abbrev fits : Bool
  fits = leb (0 + length (marks_asked e)) (length e.marks)

  refused : (r : Refusal) → last_of there (same (value_asked e) vx) fits needed ≡ Some r → Explains e (Err r) e.marks
  refused r q = sym (ap (λ (o : Option Refusal). explained_by o e) q)

  pub not_there : e.circuit.counts.O ≤ e.output → Explains e (Err (NotExplained 1)) e.marks
  not_there h =
      refused (NotExplained 1)
      (ap (λ (b : Bool). last_of b (same (value_asked e) vx) fits needed) (le-ltb e.output e.circuit.counts.O h))

  module _ (low : e.output < e.circuit.counts.O) where
    is-there : there ≡ true
    is-there = lt-ltb e.output e.circuit.counts.O low

    pub is_x : value_asked e ≡ vx → Explains e (Err (NotExplained 2)) e.marks
    is_x q = refused (NotExplained 2) (ap₂ (λ (b x : Bool). last_of b x fits needed) is-there (ap (λ (a : Value). same a vx) q))

    module _ (known : value_asked e ≡ vx → ⊥) where
      only-room : (b : Bool) → fits ≡ b → last_of there (same (value_asked e) vx) fits needed ≡ last_of true false b needed
      only-room b q =
          ap₂ (λ (t x : Bool). last_of t x fits needed) is-there (not-x (value_asked e) known) ∙ ap (λ (f : Bool). last_of true false f needed) q

      pub too_short : (k : ℕ) → length (marks_asked e) ≡ k → k < 2 ^ 64 → length e.marks < k
          → Explains e (Err (ShortBuffer k)) e.marks
      too_short k long small h =
          let cut : needed ≡ k = omega (arith, long) in
          refused (ShortBuffer k)
          (only-room false (lt-leb (0 + length (marks_asked e)) (length e.marks) (omega (arith, long)))
          ∙ ap (λ (n : ℕ). Some (ShortBuffer n)) cut)

      pub marked : length (marks_asked e) ≤ length e.marks → (marks : List ℕ) → marks ≡ put e.marks 0 (marks_asked e) → Explains e (Ok tt) marks
      marked h marks q =
          (λ j. record { answer = Ok tt; scratch = cleared e.circuit.scratch; marks = q j })
          ∙ sym (ap (λ (o : Option Refusal). explained_by o e)
          (only-room true (le-leb (0 + length (marks_asked e)) (length e.marks) (omega arith))))

-- 12, judged with outputs of the right length
two-of : (s i o : Bool) → o ≡ true → first_bad s i o ≡ or_else (failing_at 1 s) (failing_at 2 i)
two-of true true o q = ap (failing_at 3) q
two-of true false o q = refl
two-of false i o q = refl

both-good : (s i : Bool) → or_else (failing_at 1 s) (failing_at 2 i) ≡ None → (s ≡ true) × (i ≡ true)
both-good true true e = (refl, refl)
both-good true false e = some-none 2 e
both-good false i e = some-none 1 e

module _ (e : ExplainEntry) where
  abbrev pub bad : Option ℕ
  bad = let n = e.circuit.counts in or_else (failing_at 1 (codes_in e.state n.L)) (failing_at 2 (codes_in e.inputs n.I))

  pub bad-is : let n = e.circuit.counts in
      first_bad (codes_in e.state n.L) (codes_in e.inputs n.I) (eqb n.O n.O) ≡ bad
  bad-is =
      let n = e.circuit.counts in
      two-of (codes_in e.state n.L) (codes_in e.inputs n.I) (eqb n.O n.O) (eq-eqb n.O n.O refl)

  pub good-vectors : bad ≡ None → Vectors e.circuit.counts e.state e.inputs
  good-vectors q =
      let n = e.circuit.counts in
      let p = both-good (codes_in e.state n.L) (codes_in e.inputs n.I) q in
      record {
        state-length = eqb-true _ _ (and_left (eqb (length e.state) n.L) (all_codes e.state) p.0);
        inputs-length = eqb-true _ _ (and_left (eqb (length e.inputs) n.I) (all_codes e.inputs) p.1);
      }

  -- all stages past 15
  abbrev rest : List (Option Refusal)
  rest = vectors_stage e ∷ output_stage e ∷ room_stage e.marks (marks_asked e) ∷ []

  module _ (t : List ℕ) (blank : t ≡ cleared e.circuit.scratch) where
    told-refused : (r : Refusal) → answer e.circuit rest ≡ Some r
        → ◌≡◌ {A = ExplainExit} (record { answer = Err r; scratch = t; marks = e.marks }) (explain e)
    told-refused r q =
        (λ j. record { answer = Err r; scratch = blank j; marks = e.marks }) ∙ sym (ap (λ (o : Option Refusal). explained_by o e) q)

    module _ {a : Result Unit Refusal} (told : a ≡ (check_in_order e.circuit).answer) where
      pub refused-tables : (r : Refusal) → a ≡ Err r
          → ◌≡◌ {A = ExplainExit} (record { answer = Err r; scratch = t; marks = e.marks }) (explain e)
      refused-tables r q = told-refused r (refused-by e.circuit rest told r q)

      -- the tables are good
      module _ (q : a ≡ Ok tt) where
        vectors-next : (o : Option ℕ) → bad ≡ o
            → answer e.circuit rest ≡ first_of (stage BadVector o ∷ output_stage e ∷ room_stage e.marks (marks_asked e) ∷ [])
        vectors-next o h =
            past-check e.circuit rest told q
            ∙ ap (λ (p : Option ℕ). first_of (stage BadVector p ∷ output_stage e ∷ room_stage e.marks (marks_asked e) ∷ [])) h

        pub refused-vector : (k : ℕ) → bad ≡ Some k
            → ◌≡◌ {A = ExplainExit} (record { answer = Err (BadVector k); scratch = t; marks = e.marks }) (explain e)
        refused-vector k h = told-refused (BadVector k) (vectors-next (Some k) h)

        pub answered : bad ≡ None → (r : Result Unit Refusal) (marks : List ℕ) → Explains e r marks
            → ◌≡◌ {A = ExplainExit} (record { answer = r; scratch = t; marks = marks }) (explain e)
        answered h r marks x =
            (λ j. record { answer = r; scratch = blank j; marks = marks }) ∙ x
            ∙ sym (ap (λ (o : Option Refusal). explained_by o e) (vectors-next None h))
