-- What the tracer prints: the count of lines tells every refusal of standard input, and the calls on an accepted file print the run.
use Prim.Native.Nat.{ℕ, ◌≤◌}
use mathlib.Core.Path.{◌≡◌, refl, sym, ap, ap₂, ◌∙◌}
use mathlib.Core.Bool.{Bool, true, false, cond}
use mathlib.Core.List.{List, map}
use Rattle.std.specs.Prelude.{Result, Ok, Err, Option, Some, None}
use native.Mathlib.Omega.{arith}
use borrow.Author.Tests.{le-leb}
use lib.Dec.{leb}
use lib.ListN.{length}
use Rattle.plan.specs.declared.Counts.{Counts}
use Rattle.plan.specs.declared.Refusal.{Refusal}
use Rattle.plan.specs.declared.Refusal.TheVariants.{WrongByte, BadVector, LongInput}
use Rattle.plan.specs.Refusals.{Parse, got, refused, ◌then◌}
use Rattle.plan.specs.Circuit.{Circuit, Tables, circuit_of}
use Rattle.plan.specs.Reading.{read_to_work}
use Rattle.plan.specs.Convert.{convert}
use Rattle.plan.specs.Step.{Value, code_of, value_of, run, first_state}
use Rattle.plan.specs.Programs.{lent_words, refusal_line, printed, input, lines_in, all_vectors, stimulus, step_lines, tracer}
use Rattle.plan.specs.Whole.{counted_by, count_lines}
use Rattle.laws.proofs.Writing.Stepping.{codes-values}
use Rattle.runs.specs.stimulus.Scan.{ended}
use Rattle.runs.proofs.trace.InParts.{values, Calls, calls-print}

-- what is printed of standard input's lines
abbrev traced_lines : Circuit → List (List ℕ) → ℕ → Parse (List ℕ)
traced_lines c list end = got (step_lines (run (convert c) (first_state (convert c)) (map (map value_of) list))) end

abbrev of-lines : Circuit → Parse (List (List ℕ)) → List ℕ
of-lines c p = printed (p then traced_lines c)

pub count-refuses-by : (f : List (List ℕ) → ℕ → Parse (List ℕ)) (p : Parse (List (List ℕ))) (r : Refusal) → counted_by p ≡ Err r
    → printed (p then f) ≡ refusal_line r
count-refuses-by f (got list end) r e = let z : ◌≡◌ {A = ℕ} 0 1 = cc in absurd (omega arith)
count-refuses-by f (refused q) r e = ap (λ (x : Refusal). refusal_line x) (the-refusal q r e)
  where
    the-refusal : (q r : Refusal) → ◌≡◌ {A = Result ℕ Refusal} (Err q) (Err r) → q ≡ r
    the-refusal q r e = cc

-- lines that are counted are those of the input
pub all_lines : (rows : List (List ℕ)) (size k : ℕ) (x y z : Refusal) (t u v : Bool)
    → counted_by (cond t (cond u (cond v (got rows size) (refused x)) (refused y)) (refused z)) ≡ Ok k
    → cond t (cond u (cond v (got rows size) (refused x)) (refused y)) (refused z) ≡ got rows size
all_lines rows size k x y z true true true e = refl
all_lines rows size k x y z true true false e = let d : ◌≡◌ {A = ℕ} 0 1 = cc in absurd (omega arith)
all_lines rows size k x y z true false v e = let d : ◌≡◌ {A = ℕ} 0 1 = cc in absurd (omega arith)
all_lines rows size k x y z false u v e = let d : ◌≡◌ {A = ℕ} 0 1 = cc in absurd (omega arith)

-- an input's refusals come before what is done with it
module _ {A B : Type 0} (f : List ℕ → Parse A) (g : A → ℕ → Parse B) where
  then-cond : (t : Bool) (p : Parse A) (r : Refusal) → cond t (p then g) (refused r) ≡ (cond t p (refused r) then g)
  then-cond true p r = refl
  then-cond false p r = refl

  pub input-then : (source : Option (List ℕ)) → input source (λ bytes. f bytes then g) ≡ (input source f then g)
  input-then None = refl
  input-then (Some bytes) = then-cond (leb (length bytes) 65536) (f bytes) (LongInput 65536)

module _ (file : List ℕ) (c : Circuit) (start : ℕ) (short : length file ≤ 65536) (reads : read_to_work file lent_words lent_words ≡ got c start)
    (source : Option (List ℕ)) where
  abbrev width : ℕ
  width = length c.inputs

  abbrev after-file : Circuit → ℕ → Parse (List ℕ)
  after-file d _ = input source (λ bytes. stimulus (length d.inputs) bytes then traced_lines d)

  accepted : tracer (Some file) source ≡ of-lines c (input source (stimulus width))
  accepted =
      ap (λ (t : Bool). printed (cond t (read_to_work file lent_words lent_words then after-file) (refused (LongInput 65536))))
      (le-leb (length file) 65536 short)
      ∙ (ap (λ (p : Parse Circuit). printed (p then after-file)) reads
      ∙ ap printed (input-then (stimulus width) (traced_lines c) source))

  -- the file is accepted, and the count of lines is refused
  pub tracer-refuses : (r : Refusal) → count_lines source width ≡ Err r → tracer (Some file) source ≡ refusal_line r
  tracer-refuses r e = accepted ∙ count-refuses-by (traced_lines c) (input source (stimulus width)) r e

  -- or tells how many there are
  pub tracer-prints : (bytes : List ℕ) → source ≡ Some bytes → (k : ℕ) → count_lines source width ≡ Ok k
      → tracer (Some file) source ≡ step_lines (run (convert c) (first_state (convert c)) (values bytes))
  tracer-prints bytes is k e =
      let whole : input source (stimulus width) ≡ got (lines_in bytes) (length bytes)
      = ap (λ (o : Option (List ℕ)). input o (stimulus width)) is
      ∙ all_lines (lines_in bytes) (length bytes) k (BadVector 2) (WrongByte (length bytes)) (LongInput 65536) (leb (length bytes) 65536)
      (ended bytes) (all_vectors width (lines_in bytes)) (ap (λ (o : Option (List ℕ)). count_lines o width) (sym is) ∙ e) in
      accepted ∙ ap (of-lines c) whole

-- calls on the converted circuit, from the codes of its first state on, print what the tracer prints
pub calls-trace : (file : List ℕ) (c : Circuit) (start : ℕ) → length file ≤ 65536 → read_to_work file lent_words lent_words ≡ got c start
    → (bytes : List ℕ) (k : ℕ) → count_lines (Some bytes) (length c.inputs) ≡ Ok k
    → (n : Counts) (t : Tables) → circuit_of n t ≡ convert c → (scratch out : List ℕ)
    → Calls n t scratch (map code_of (first_state (convert c))) bytes out
    → out ≡ tracer (Some file) (Some bytes)
calls-trace file c start short reads bytes k counted n t holds scratch out calls =
    calls-print calls
    ∙ (ap₂ (λ (d : Circuit) (s : List Value). step_lines (run d s (values bytes))) holds (codes-values (first_state (convert c)))
    ∙ sym (tracer-prints file c start short reads (Some bytes) bytes refl k counted))
