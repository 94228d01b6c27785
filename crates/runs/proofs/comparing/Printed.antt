-- What the comparer prints: of a plan with at most 24 gates what the tracer prints, else the line of 24, whatever standard input has. Its calls, in
-- which both engines step, print that.
use Prim.Native.Nat.{ℕ, ◌+◌, ◌*◌, ◌≤◌, ◌<◌}
use mathlib.Core.Path.{◌≡◌, refl, sym, ap, ◌∙◌, subst, subst₂}
use mathlib.Core.Bool.{Bool, true, cond}
use mathlib.Core.List.{List, [], ◌++◌, map}
use Rattle.std.specs.Prelude.{Result, Ok, Err, Option, Some}
use Rattle.plan.specs.declared.Refusal.{Refusal}
use native.Mathlib.Omega.{arith}
use borrow.Author.Tests.{le-leb, lt-leb}
use lib.ListN.{length, take, drop}
use Rattle.plan.specs.declared.Counts.{Counts}
use Rattle.plan.specs.declared.Refusal.TheVariants.{LongInput, ManyGates}
use Rattle.plan.specs.Refusals.{Parse, got, refused, ◌then◌, unless}
use Rattle.plan.specs.Circuit.{Circuit, Tables, circuit_of}
use Rattle.plan.specs.Given.{failing_at}
use Rattle.plan.specs.Reading.{read_to_work}
use Rattle.plan.specs.Convert.{convert}
use Rattle.plan.specs.Step.{code_of, value_of, run, first_state}
use Rattle.plan.specs.Programs.{lent_words, refusal_line, printed, input, stimulus, step_lines, tracer}
use Rattle.plan.specs.Whole.{line_width, count_lines, trace}
use Rattle.plan.specs.Plain.{many_gates, comparer}
use Rattle.runs.specs.comparing.Both.{CompareEntry, CompareExit, compared_by, compare}
use Rattle.runs.proofs.trace.InParts.{call, Calls, none_left, one_more}
use Rattle.runs.proofs.trace.Printed.{calls-trace}
use Rattle.runs.proofs.comparing.Parting.{never-part}

module _ (file : List ℕ) (c : Circuit) (start : ℕ) (short : length file ≤ 65536) (reads : read_to_work file lent_words lent_words ≡ got c start)
    (source : Option (List ℕ)) where
  -- what comes after plan.in
  abbrev after : Circuit → ℕ → Parse (List ℕ)
  after d _ = input source λ bytes.
      stimulus (length d.inputs) bytes then λ list end.
      got (step_lines (run (convert d) (first_state (convert d)) (map (map value_of) list))) end

  opened : (f : Circuit → ℕ → Parse (List ℕ))
      → printed (input (Some file) (λ bytes. read_to_work bytes lent_words lent_words then f)) ≡ printed (f c start)
  opened f =
      ap (λ (t : Bool). printed (cond t (read_to_work file lent_words lent_words then f) (refused (LongInput 65536)))) (le-leb (length file) 65536 short)
      ∙ ap (λ (p : Parse Circuit). printed (p then f)) reads

  judged : comparer (Some file) source ≡ printed (unless (many_gates (length c.gates)) ManyGates (after c start))
  judged = opened (λ d m. unless (many_gates (length d.gates)) ManyGates (after d m))

  abbrev by_count : Bool → List ℕ
  by_count t = printed (unless (failing_at (length c.gates) t) ManyGates (after c start))

  pub comparer-traces : length c.gates ≤ 24 → comparer (Some file) source ≡ tracer (Some file) source
  comparer-traces few = judged ∙ (ap by_count (le-leb (length c.gates) 24 few) ∙ sym (opened after))

  pub comparer-refuses : 24 < length c.gates → comparer (Some file) source ≡ refusal_line (ManyGates (length c.gates))
  comparer-refuses many = judged ∙ ap by_count (lt-leb (length c.gates) 24 many)

-- calls of both engines until no vector is left, each from the scratch, the states and the buffers that the one before left
abbrev pub pair : Counts → Tables → List ℕ → List ℕ → List ℕ → List ℕ → List ℕ → List ℕ → CompareEntry
pair n t scratch state out twin again vectors = record { part = call n t scratch state vectors out; twin = twin; again = again }

pub data BothCalls (n : Counts) (t : Tables) : List ℕ → List ℕ → List ℕ → List ℕ → List ℕ → List ℕ → List ℕ → Type 0 where
  no_more : {scratch state out twin again : List ℕ} → BothCalls n t scratch state out twin again [] []
  one-part : {scratch state out twin again vectors printed : List ℕ} (k : ℕ) (x : CompareExit)
      → x ≡ compare (pair n t scratch state out twin again vectors) → x.answer ≡ Ok (Some k)
      → BothCalls n t x.scratch x.state x.out x.twin x.again (drop ((n.I + 1) * k) vectors) printed
      → BothCalls n t scratch state out twin again vectors (take (line_width n * k) x.out ++ printed)

lines-only : (t : Result ℕ Refusal) (k : ℕ) → compared_by true t ≡ Ok (Some k) → t ≡ Ok k
lines-only (Ok m) k e = let same : m ≡ k = cc in ap Ok same
lines-only (Err r) k e = let z : ◌≡◌ {A = ℕ} 0 1 = cc in absurd (omega arith)

-- with at most 24 gates, from one state and one buffer, they are the tracer's
pub both-trace : {n : Counts} {t : Tables} {scratch state out twin again vectors printed : List ℕ} → n.A ≤ 24 → twin ≡ state → again ≡ out
    → BothCalls n t scratch state out twin again vectors printed → Calls n t scratch state vectors printed
both-trace few a b no_more = none_left
both-trace {n} {t} {scratch} {state} {out} {twin} {again} {vectors} few a b (one-part {printed = printed} k x is said rest) =
    let e = pair n t scratch state out twin again vectors in
    let q = is ∙ never-part e few a b in
    let done : (trace e.part).answer ≡ Ok k
    = lines-only (trace e.part).answer k (sym (ap (λ (y : CompareExit). y.answer) q) ∙ said) in
    let later : Calls n t x.scratch x.state (drop ((n.I + 1) * k) vectors) printed
    = both-trace few (ap (λ (y : CompareExit). y.twin) q ∙ sym (ap (λ (y : CompareExit). y.state) q))
    (ap (λ (y : CompareExit). y.again) q ∙ sym (ap (λ (y : CompareExit). y.out) q)) rest in
    let same : take (line_width n * k) (trace e.part).out ++ printed ≡ take (line_width n * k) x.out ++ printed
    = ap (λ (l : List ℕ). take (line_width n * k) l ++ printed) (sym (ap (λ (y : CompareExit). y.out) q)) in
    subst (Calls n t scratch state vectors) same
    (one_more out k done
    (subst₂ (λ (y z : List ℕ). Calls n t y z (drop ((n.I + 1) * k) vectors) printed) (ap (λ (y : CompareExit). y.scratch) q)
    (ap (λ (y : CompareExit). y.state) q) later))

-- so the calls on the converted circuit, both engines starting from the codes of its first state, print what the comparer prints
pub calls-compare : (file : List ℕ) (c : Circuit) (start : ℕ) → length file ≤ 65536 → read_to_work file lent_words lent_words ≡ got c start
    → length c.gates ≤ 24 → (bytes : List ℕ) (k : ℕ) → count_lines (Some bytes) (length c.inputs) ≡ Ok k
    → (n : Counts) (t : Tables) → circuit_of n t ≡ convert c → n.A ≤ 24 → (scratch out printed : List ℕ)
    → BothCalls n t scratch (map code_of (first_state (convert c))) out (map code_of (first_state (convert c))) out bytes printed
    → printed ≡ comparer (Some file) (Some bytes)
calls-compare file c start short reads few bytes k counted n t holds small scratch out printed calls =
    calls-trace file c start short reads bytes k counted n t holds scratch printed (both-trace small refl refl calls)
    ∙ sym (comparer-traces file c start short reads (Some bytes) few)
