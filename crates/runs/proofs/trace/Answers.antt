-- The outcome of a traced part, from what was told on the way.
use Prim.Native.Nat.{ℕ, ◌/◌, ◌≤◌, min}
use mathlib.Core.Path.{◌≡◌, refl, sym, ap, ap₂, ◌∙◌}
use mathlib.Core.Bool.{Bool, true, false, ◌&&◌}
use mathlib.Core.List.{List, [], ◌∷◌, map}
use Rattle.std.specs.Prelude.{Result, Ok, Err, Option, Some, None}
use native.Mathlib.Nat.{min-le_left, min-le_right, mul-le-mul_left, mul-div-le, le_trans}
use native.Mathlib.Omega.{arith}
use borrow.Author.Tests.{eqb-true}
use lib.Dec.{eqb}
use lib.ListN.{length, take, length-map}
use lib.Seq.{length-take-le}
use Rattle.plan.specs.declared.Refusal.{Refusal}
use Rattle.plan.specs.declared.Refusal.TheVariants.{BadVector}
use Rattle.plan.specs.Refusals.{stage, first_of}
use Rattle.plan.specs.Circuit.{cleared}
use Rattle.plan.specs.Step.{Value, code_of, value_of, run}
use Rattle.plan.specs.Given.{given_circuit, or_else, failing_at}
use Rattle.plan.specs.Outcome.{all_codes, put}
use Rattle.plan.specs.Programs.{lines_in, all_vectors, step_lines}
use Rattle.plan.specs.Whole.{TraceEntry, TraceExit, trace_stage, line_width, next_lines, state_after, traced_by, trace}
use Rattle.laws.proofs.Reading.Common.{and_left, and_right}
use Rattle.step.proofs.codes.Places.{codes_in}
use Rattle.step.proofs.Checks.{answer}
use Rattle.runs.specs.stimulus.Scan.{ended}
use Rattle.runs.specs.trace.Tracing.{Listed, Left, first_ones, judged}

-- what was judged
abbrev pub bad : Bool → Bool → Option Refusal
bad s v = stage BadVector (or_else (failing_at 1 s) (failing_at 2 v))

some-bad : (s v : Bool) (k : ℕ) (r : Refusal) → judged s v k ≡ Err r → bad s v ≡ Some r
some-bad true true k r e = let z : ◌≡◌ {A = ℕ} 0 1 = cc in absurd (omega arith)
some-bad true false k r e = cc
some-bad false v k r e = cc

none-bad : (s v : Bool) (k m : ℕ) → judged s v k ≡ Ok m → (s ≡ true) × (v ≡ true) × (k ≡ m)
none-bad true true k m e = (refl, refl, cc)
none-bad true false k m e = let z : ◌≡◌ {A = ℕ} 0 1 = cc in absurd (omega arith)
none-bad false v k m e = let z : ◌≡◌ {A = ℕ} 0 1 = cc in absurd (omega arith)

module _ (e : TraceEntry) where
  abbrev lines : List (List ℕ)
  lines = lines_in e.vectors

  abbrev state-good : Bool
  state-good = codes_in e.state e.circuit.counts.L

  abbrev whole : Bool
  whole = ended e.vectors && all_vectors e.circuit.counts.I lines

  -- as many lines as there are and fit
  abbrev few : ℕ
  few = min (length lines) (length e.out / line_width e.circuit.counts)

  few-lines : length (next_lines e) ≡ few
  few-lines =
      length-map (take few lines) (map value_of)
      ∙ length-take-le few lines (min-le_left (length lines) (length e.out / line_width e.circuit.counts))

  pub refused-trace : (t : List ℕ) → t ≡ cleared e.circuit.scratch → (r : Refusal) → answer e.circuit (trace_stage e) ≡ Some r
      → ◌≡◌ {A = TraceExit} (record { answer = Err r; scratch = t; state = e.state; out = e.out }) (trace e)
  refused-trace t blank r q =
      (λ j. record { answer = Err r; scratch = blank j; state = e.state; out = e.out })
      ∙ sym (ap (λ (o : Option Refusal). traced_by o e) q)

  -- what was judged of the vectors, once the tables are good
  module _ (a : Result ℕ Refusal) (says : a ≡ judged state-good whole (length lines)) where
    module _ (m : ℕ) (is : a ≡ Ok m) where
      told : (state-good ≡ true) × (whole ≡ true) × (length lines ≡ m)
      told = none-bad state-good whole (length lines) m (sym says ∙ is)

      pub state-long : length e.state ≡ e.circuit.counts.L
      state-long = eqb-true _ _ (and_left (eqb (length e.state) e.circuit.counts.L) (all_codes e.state) told.0)

      module _ (number : ℕ) (fit : number ≡ min m (length e.out / line_width e.circuit.counts)) where
        number_is : number ≡ few
        number_is = fit ∙ ap (λ (k : ℕ). min k (length e.out / line_width e.circuit.counts)) (sym told.2)

        pub listed : Listed e.circuit.counts number e.vectors e.out
        listed =
            let w : ℕ = line_width e.circuit.counts in
            let less : number ≤ length e.out / w = omega (arith, fit, min-le_right m (length e.out / w)) in
            let many : few ≤ length lines = min-le_left (length lines) (length e.out / w) in
            record {
              good = and_right (ended e.vectors) (all_vectors e.circuit.counts.I lines) told.1;
              enough = omega (arith, number_is);
              room = le_trans (mul-le-mul_left w less) (mul-div-le (length e.out) w);
            }

    module _ (t : List ℕ) (blank : t ≡ cleared e.circuit.scratch)
        (past : answer e.circuit (trace_stage e) ≡ first_of (trace_stage e ∷ [])) where
      pub refused-vectors : (r : Refusal) → a ≡ Err r
          → ◌≡◌ {A = TraceExit} (record { answer = Err r; scratch = t; state = e.state; out = e.out }) (trace e)
      refused-vectors r is =
          refused-trace t blank r
          (past ∙ ap (λ (o : Option Refusal). first_of (o ∷ [])) (some-bad state-good whole (length lines) r (sym says ∙ is)))

      pub done-trace : (m : ℕ) → a ≡ Ok m → (number : ℕ) → number ≡ min m (length e.out / line_width e.circuit.counts)
          → (state' out' : List ℕ) → Left (given_circuit e.circuit) e.state (first_ones number e.vectors) state' e.out out'
          → ◌≡◌ {A = TraceExit} (record { answer = Ok number; scratch = t; state = state'; out = out' }) (trace e)
      done-trace m is number fit state' out' l =
          (λ j. record { answer = Ok (count j); scratch = blank j; state = state-is j; out = out-is j })
          ∙ sym (ap (λ (o : Option Refusal). traced_by o e) (past ∙ ap (λ (o : Option Refusal). first_of (o ∷ [])) nothing))
        where
          same : number ≡ few
          same = number_is m is number fit

          count : number ≡ length (next_lines e)
          count = same ∙ sym few-lines

          list-is : first_ones number e.vectors ≡ next_lines e
          list-is = ap (λ (k : ℕ). first_ones k e.vectors) same

          state-is : state' ≡ map code_of (state_after (given_circuit e.circuit) (map value_of e.state) (next_lines e))
          state-is =
              l.state-is ∙ ap (λ (x : List (List Value)). map code_of (state_after (given_circuit e.circuit) (map value_of e.state) x)) list-is

          out-is : out' ≡ put e.out 0 (step_lines (run (given_circuit e.circuit) (map value_of e.state) (next_lines e)))
          out-is =
              l.lines
              ∙ ap (λ (x : List (List Value)). put e.out 0 (step_lines (run (given_circuit e.circuit) (map value_of e.state) x))) list-is

          nothing : bad state-good whole ≡ None
          nothing = ap₂ bad (told m is).0 (told m is).1
