-- Steps in a row are the run of the definition: each call of the stepper starts from the state that the one before wrote.
use Prim.Native.Nat.{ℕ}
use mathlib.Core.Path.{◌≡◌, refl, ap, ap₂, ◌∙◌}
use mathlib.Core.Bool.{true}
use mathlib.Core.List.{List, [], ◌∷◌, map}
use lib.ListN.{length, length-map}
use Rattle.std.specs.Prelude.{Ok}
use Rattle.plan.specs.Circuit.{Circuit, cleared}
use Rattle.plan.specs.Binary.{binary_order}
use Rattle.plan.specs.Given.{Given}
use Rattle.plan.specs.Step.{Value, v0, v1, vx, code_of, value_of, outputs_of, bads_of, constraints_of, next_of, Step, step_of, run}
use Rattle.plan.specs.Outcome.{all_codes, StepExit, step}
use Rattle.laws.proofs.Running.Runs.{Sized, next-length}
use Rattle.laws.proofs.Writing.Later.{Left}
use Rattle.laws.proofs.Writing.Accepting.{step-done}

-- the stepper's calls on a list of input vectors, with a buffer for the outputs
abbrev pub steps : Given → List ℕ → List ℕ → List (List ℕ) → List StepExit
steps g outs state [] = []
steps g outs state (ins ∷ list) =
    let x = step (record { circuit = g; state = state; inputs = ins; outputs = outs }) in
    x ∷ steps g outs x.state list

-- what a step of the definition is for the stepper
abbrev pub exit_of : Given → Step → StepExit
exit_of g s = record {
  answer = Ok tt;
  scratch = cleared g.scratch;
  state = map code_of s.next;
  outputs = map code_of s.outputs;
}

code-value : (a : Value) → value_of (code_of a) ≡ a
code-value v0 = refl
code-value v1 = refl
code-value vx = refl

pub codes-values : (l : List Value) → map value_of (map code_of l) ≡ l
codes-values [] = refl
codes-values (a ∷ l) = ap₂ (λ (x : Value) (y : List Value). x ∷ y) (code-value a) (codes-values l)

pub all_codes_lem : (l : List Value) → all_codes (map code_of l) ≡ true
all_codes_lem [] = refl
all_codes_lem (v0 ∷ l) = all_codes_lem l
all_codes_lem (v1 ∷ l) = all_codes_lem l
all_codes_lem (vx ∷ l) = all_codes_lem l

module _ (g : Given) (c : Circuit) (left : Left g c) (order : binary_order c ≡ true) (outs : List ℕ)
    (room : length outs ≡ length c.outputs) where
  one-step : (state ins : List Value) → length state ≡ length c.latches → length ins ≡ length c.inputs
      → step (record { circuit = g; state = map code_of state; inputs = map code_of ins; outputs = outs })
      ≡ exit_of g (step_of c state ins)
  one-step state ins ls li =
      step-done g c left order (map code_of state) (map code_of ins) outs (length-map state code_of ∙ ls) (all_codes_lem state)
      (length-map ins code_of ∙ li) (all_codes_lem ins) room
      ∙ ap₂ (λ (s i : List Value). exit_of g (record {
        state = state;
        inputs = ins;
        outputs = outputs_of c s i;
        bads = bads_of c state ins;
        constraints
            = constraints_of c state ins;
        next = next_of c s i;
      }))
      (codes-values state) (codes-values ins)

  pub steps-run : (list : List (List Value)) → Sized (length c.inputs) list → (state : List Value) → length state ≡ length c.latches
      → steps g outs (map code_of state) (map (map code_of) list) ≡ map (exit_of g) (run c state list)
  steps-run [] z state h = refl
  steps-run (ins ∷ list) z state h =
      let e = one-step state ins h z.0 in
      ap₂ (λ (x : StepExit) (y : List ℕ). x ∷ steps g outs y (map (map code_of) list)) e (ap (λ (x : StepExit). x.state) e)
      ∙ ap (λ (x : List StepExit). exit_of g (step_of c state ins) ∷ x)
      (steps-run list z.1 (next_of c state ins) (next-length c state ins))
