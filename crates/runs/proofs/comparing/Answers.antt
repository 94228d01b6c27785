-- The outcome of a part of a run by the plain engine, which is the tracer's where there are at most 24 gates.
use Prim.Native.Nat.{ℕ, ◌≤◌}
use mathlib.Core.Path.{◌≡◌, refl, sym, ap, ◌∙◌}
use mathlib.Core.Bool.{Bool, true, false, cond, ◌&&◌}
use mathlib.Core.List.{List}
use Rattle.std.specs.Prelude.{Result, Ok, Err, Option, Some}
use native.Mathlib.Omega.{arith}
use borrow.Author.Tests.{leb-true, leb-false, le-leb}
use lib.Dec.{eqb, leb}
use lib.ListN.{length}
use Rattle.plan.specs.declared.Refusal.{Refusal}
use Rattle.plan.specs.declared.Refusal.TheVariants.{ManyGates}
use Rattle.plan.specs.Circuit.{cleared}
use Rattle.plan.specs.Outcome.{all_codes, check_in_order}
use Rattle.plan.specs.Programs.{lines_in, all_vectors}
use Rattle.plan.specs.Whole.{TraceEntry, TraceExit, trace_stage, traced_by, trace}
use Rattle.laws.proofs.Reading.Common.{and_right}
use Rattle.step.proofs.codes.Places.{codes_in}
use Rattle.runs.specs.stimulus.Scan.{ended}
use Rattle.step.proofs.Checks.{past-check}
use Rattle.runs.specs.trace.Tracing.{judged}
use Rattle.runs.proofs.trace.Answers.{state-long, refused-vectors}
use Rattle.plan.specs.Plain.{plain_trace}
use Rattle.plain.proofs.Beyond.{plain_answer, answer-few, refused-gates}
use Rattle.runs.specs.comparing.Lined.{Vector, plain_judged}

-- For every circuit of at most 24 gates, every state and every list of vectors, the plain engine writes the lines that the stepper writes and
-- leaves the same state, refusals too: the comparer never writes "differ".
pub same_lines : (e : TraceEntry) → e.circuit.counts.A ≤ 24 → plain_trace e ≡ trace e
same_lines e h = ap (λ (o : Option Refusal). traced_by o e) (answer-few e.circuit (trace_stage e) h)

pub refused-lines : (e : TraceEntry) (t : List ℕ) → t ≡ cleared e.circuit.scratch → (r : Refusal)
    → plain_answer e.circuit (trace_stage e) ≡ Some r
    → ◌≡◌ {A = TraceExit} (record { answer = Err r; scratch = t; state = e.state; out = e.out }) (plain_trace e)
refused-lines e t blank r q =
    (λ j. record { answer = Err r; scratch = blank j; state = e.state; out = e.out })
    ∙ sym (ap (λ (o : Option Refusal). traced_by o e) q)

-- a state that is not refused is one of codes
state-good : (s v : Bool) (k m : ℕ) → judged s v k ≡ Ok m → s ≡ true
state-good true v k m e = refl
state-good false v k m e = let z : ◌≡◌ {A = ℕ} 0 1 = cc in absurd (omega arith)

module _ (e : TraceEntry) (a : Result ℕ Refusal)
    (says : a ≡ judged (codes_in e.state e.circuit.counts.L)
    (ended e.vectors && all_vectors e.circuit.counts.I (lines_in e.vectors)) (length (lines_in e.vectors))) where
  pub state-vector : (m : ℕ) → a ≡ Ok m → Vector e.circuit.counts.L e.state
  state-vector m is = record {
    long = state-long e a says m is;
    codes =
        and_right (eqb (length e.state) e.circuit.counts.L) (all_codes e.state)
        (state-good (codes_in e.state e.circuit.counts.L)
        (ended e.vectors && all_vectors e.circuit.counts.I (lines_in e.vectors)) (length (lines_in e.vectors)) m (sym says ∙ is));
  }

-- what is told by 24 and then 12, once the tables are good
abbrev refusal_in : Refusal → Result ℕ Refusal → Refusal
refusal_in s (Ok k) = s
refusal_in s (Err r) = r

apart : (r : Refusal) (m : ℕ) → Err r ≡ Ok m → ⊥
apart r m e = let z : ◌≡◌ {A = ℕ} 0 1 = cc in absurd (omega arith)

module _ (e : TraceEntry) (a : Result ℕ Refusal) (says : a ≡ plain_judged e.circuit.counts e.state e.vectors) where
  abbrev gates : ℕ
  gates = e.circuit.counts.A

  abbrev by12 : Result ℕ Refusal
  by12 =
      judged (codes_in e.state e.circuit.counts.L)
      (ended e.vectors && all_vectors e.circuit.counts.I (lines_in e.vectors)) (length (lines_in e.vectors))

  by-gates : (b : Bool) → leb gates 24 ≡ b → a ≡ cond b by12 (Err (ManyGates gates))
  by-gates b q = says ∙ ap (λ (t : Bool). cond t by12 (Err (ManyGates gates))) q

  module _ (m : ℕ) (is : a ≡ Ok m) where
    pub few-gates : gates ≤ 24
    few-gates = go (leb gates 24) refl
      where
        go : (b : Bool) → leb gates 24 ≡ b → gates ≤ 24
        go true q = leb-true gates 24 q
        go false q = absurd (apart (ManyGates gates) m (sym (by-gates false q) ∙ is))

    pub lines-judged : a ≡ by12
    lines-judged = by-gates true (le-leb gates 24 few-gates)

  pub refused-plainly : (t : List ℕ) → t ≡ cleared e.circuit.scratch → {k : Result Unit Refusal} → k ≡ (check_in_order e.circuit).answer → k ≡ Ok tt
      → (r : Refusal) → a ≡ Err r
      → ◌≡◌ {A = TraceExit} (record { answer = Err r; scratch = t; state = e.state; out = e.out }) (plain_trace e)
  refused-plainly t blank check good r is = go (leb gates 24) refl
    where
      go : (b : Bool) → leb gates 24 ≡ b
          → ◌≡◌ {A = TraceExit} (record { answer = Err r; scratch = t; state = e.state; out = e.out }) (plain_trace e)
      go true q =
          refused-vectors e a (by-gates true q) t blank (past-check e.circuit (trace_stage e) check good) r is
          ∙ sym (same_lines e (leb-true gates 24 q))
      go false q =
          refused-lines e t blank r
          (refused-gates e.circuit (trace_stage e) check good (leb-false gates 24 q)
          ∙ ap (λ (x : Result ℕ Refusal). Some (refusal_in r x)) (sym (by-gates false q) ∙ is))
