-- Demand 3 of the stepper's calls, in their bytes: a file read and converted, its circuit stepped, and the reduced one stepped.
use Prim.Native.Nat.{ℕ}
use mathlib.Core.Path.{◌≡◌, refl, sym, ap, ◌∙◌, subst, subst₂}
use mathlib.Core.Bool.{true}
use mathlib.Core.List.{List, [], ◌∷◌, map}
use lib.ListN.{length}
use Rattle.std.specs.Prelude.{Ok}
use Rattle.plan.specs.declared.Counts.{Counts}
use Rattle.plan.specs.Circuit.{Circuit}
use Rattle.plan.specs.Reading.{WellFormed}
use Rattle.plan.specs.Binary.{binary_order}
use Rattle.plan.specs.Given.{Given}
use Rattle.plan.specs.Convert.{convert}
use Rattle.plan.specs.Reduce.{reduce}
use Rattle.plan.specs.Step.{Value, code_of, Step, run, first_state}
use Rattle.plan.specs.Outcome.{MakeEntry, MakeExit, conversion, reduction, StepExit}
use Rattle.laws.proofs.Running.Counts.{counts-convert, counts-reduce}
use Rattle.laws.proofs.Running.Monotone.{Replaced, Kept}
use Rattle.laws.proofs.Running.Runs.{Sized, replaced-sized}
use Rattle.laws.proofs.Running.WithoutX.{NoX, NoXs}
use Rattle.laws.proofs.Running.Resets.{first-convert, first-length}
use Rattle.laws.proofs.Running.Results.{convert-well-formed, convert-in-order, reduce-well-formed, reduce-in-order}
use Rattle.laws.proofs.Running.Unchanged.{convert-same}
use Rattle.laws.proofs.Running.DemandThree.{demand-three}
use Rattle.laws.proofs.Writing.Later.{Left, conversion-left, reduction-left}
use Rattle.laws.proofs.Writing.Stepping.{steps, exit_of, steps-run}
use Rattle.laws.proofs.Writing.Calls.{ReadCall, MakeCall, read_circuit, made_circuit, FromRead, FromMade, from-read, from-made, read-formed, converted-is}
use Rattle.laws.proofs.Writing.KeptBytes.{KeptBytes, kept-codes}

-- what a conversion or a reduction left, as a later call is handed it
abbrev pub left_by : (f : MakeEntry → MakeExit) → MakeCall f → Given
left_by f m = record { counts = m.counts; tables = (f m.entry).written; scratch = (f m.entry).scratch }

-- calls of the stepper, in a row: none refuses, and each byte of the outputs and of the state that was not "x" is the same
abbrev pub KeptSteps : List StepExit → List StepExit → Type 0
KeptSteps [] [] = Unit {0}
KeptSteps [] (y ∷ ys) = ⊥
KeptSteps (x ∷ xs) [] = ⊥
KeptSteps (x ∷ xs) (y ∷ ys) =
    (x.answer ≡ Ok tt) × (y.answer ≡ Ok tt) × KeptBytes x.outputs y.outputs × KeptBytes x.state y.state × KeptSteps xs ys

kept-exits : (g h : Given) (xs ys : List Step) → Kept xs ys → KeptSteps (map (exit_of g) xs) (map (exit_of h) ys)
kept-exits g h [] [] k = tt
kept-exits g h [] (y ∷ ys) k = absurd k
kept-exits g h (x ∷ xs) [] k = absurd k
kept-exits g h (x ∷ xs) (y ∷ ys) k =
    (refl, refl, kept-codes x.outputs y.outputs k.1, kept-codes x.next y.next k.4, kept-exits g h xs ys k.5)

-- what a step shows
pub record Shown : Type 0 where
  pub outputs : List ℕ
  pub state : List ℕ

abbrev pub shown : StepExit → Shown
shown x = record { outputs = x.outputs; state = x.state }

shown-exits : (g h : Given) (xs : List Step) → map shown (map (exit_of g) xs) ≡ map shown (map (exit_of h) xs)
shown-exits g h [] = refl
shown-exits g h (x ∷ xs) = ap (λ (l : List Shown). shown (exit_of g x) ∷ l) (shown-exits g h xs)

-- the stepper's calls on a list of vectors, from the resets of a circuit
abbrev pub steps_from : Circuit → Given → List ℕ → List (List Value) → List StepExit
steps_from c g outs is = steps g outs (map code_of (first_state c)) (map (map code_of) is)

-- a circuit that a later call left, as the stepper asks for it, with the inputs, outputs and resets of an earlier one
pub record Follows (d e : Circuit) (g : Given) : Type 0 where
  pub left : Left g e
  pub order : binary_order e ≡ true
  pub formed : WellFormed e
  pub inputs : length e.inputs ≡ length d.inputs
  pub outputs : length e.outputs ≡ length d.outputs
  pub begins : first_state e ≡ first_state d

module _ (r : ReadCall) (m : MakeCall conversion) (m-given : FromRead m.entry.circuit r) where
  abbrev d : Circuit
  d = convert (read_circuit r)

  pub converted-formed : WellFormed (convert (read_circuit r))
  converted-formed = convert-well-formed (read_circuit r) (read-formed r)

  pub converted-order : binary_order (convert (read_circuit r)) ≡ true
  converted-order = convert-in-order (read_circuit r) (read-formed r)

  pub converted-from : made_circuit conversion m ≡ convert (read_circuit r)
  converted-from = converted-is m ∙ ap convert (from-read m.entry.circuit r m-given)

  converted-left : Left (left_by conversion m) d
  converted-left =
      subst (Left (left_by conversion m)) (ap convert (from-read m.entry.circuit r m-given)) (conversion-left m.entry m.counts m.accepted).0

  inputs_are : length d.inputs ≡ length (read_circuit r).inputs
  inputs_are = ap (λ (n : Counts). n.I) (counts-convert (read_circuit r) (read-formed r))

  outputs-are : length d.outputs ≡ length (read_circuit r).outputs
  outputs-are = ap (λ (n : Counts). n.O) (counts-convert (read_circuit r) (read-formed r))

  pub converted-sized : (is : List (List Value)) → Sized (length (read_circuit r).inputs) is → Sized (length (convert (read_circuit r)).inputs) is
  converted-sized is = subst (λ (n : ℕ). Sized n is) (sym inputs_are)

  -- beside a circuit that follows, on a list in which any x is replaced
  module _ (e : Circuit) (g : Given) (follows : Follows d e g) (is js : List (List Value)) (sized : Sized (length (read_circuit r).inputs) is)
      (replaced : Replaced is js) (outs outs' : List ℕ) (room : length outs ≡ length (read_circuit r).outputs)
      (room' : length outs' ≡ length (read_circuit r).outputs) where
    start : first_state d ≡ first_state (read_circuit r)
    start = first-convert (read_circuit r)

    converted-steps : steps_from (read_circuit r) (left_by conversion m) outs is ≡ map (exit_of (left_by conversion m)) (run d (first_state d) is)
    converted-steps =
        ap (λ (t : List Value). steps (left_by conversion m) outs (map code_of t) (map (map code_of) is)) (sym start)
        ∙ steps-run (left_by conversion m) d converted-left converted-order outs (room ∙ sym outputs-are) is (converted-sized is sized) (first_state d)
        (first-length d converted-formed)

    later-steps : steps_from (read_circuit r) g outs' js ≡ map (exit_of g) (run e (first_state d) js)
    later-steps =
        ap (λ (t : List Value). steps g outs' (map code_of t) (map (map code_of) js)) (sym start)
        ∙ steps-run g e follows.left follows.order outs' (room' ∙ sym (follows.outputs ∙ outputs-are)) js
        (subst (λ (n : ℕ). Sized n js) (sym follows.inputs) (replaced-sized (length d.inputs) is js replaced (converted-sized is sized)))
        (first_state d) (sym (ap length follows.begins) ∙ first-length e follows.formed)

    pub later-kept : Kept (run d (first_state d) is) (run e (first_state d) js)
        → KeptSteps (steps_from (read_circuit r) (left_by conversion m) outs is) (steps_from (read_circuit r) g outs' js)
    later-kept kept =
        subst₂ KeptSteps (sym converted-steps) (sym later-steps) (kept-exits (left_by conversion m) g (run d (first_state d) is) (run e (first_state d) js) kept)

    pub later_same : (NoX (first_state d) → run d (first_state d) is ≡ run e (first_state d) js) → NoX (first_state (read_circuit r))
        → map shown (steps_from (read_circuit r) (left_by conversion m) outs is) ≡ map shown (steps_from (read_circuit r) g outs' js)
    later_same same f =
        ap (map shown) converted-steps
        ∙ (shown-exits (left_by conversion m) g (run d (first_state d) is)
        ∙ (ap (λ (l : List Step). map shown (map (exit_of g) l)) (same (subst NoX (sym start) f)) ∙ ap (map shown) (sym later-steps)))

module _ (r : ReadCall) (m : MakeCall conversion) (m-given : FromRead m.entry.circuit r)
    (s : MakeCall reduction) (s-given : FromMade conversion s.entry.circuit m) where
  -- what the reduction left
  follows : Follows (d r m m-given) (reduce (d r m m-given)) (left_by reduction s)
  follows = record {
    left =
        subst (Left (left_by reduction s)) (ap reduce (from-made conversion s.entry.circuit m s-given ∙ converted-from r m m-given))
        (reduction-left s.entry s.counts s.accepted).0;
    order = reduce-in-order (d r m m-given) (converted-formed r m m-given) (converted-order r m m-given);
    formed = reduce-well-formed (d r m m-given) (converted-formed r m m-given) (converted-order r m m-given);
    inputs = ap (λ (n : Counts). n.I) (counts-reduce (d r m m-given));
    outputs = ap (λ (n : Counts). n.O) (counts-reduce (d r m m-given));
    begins = refl;
  }

  module _ (is js : List (List Value)) (sized : Sized (length (read_circuit r).inputs) is) (replaced : Replaced is js)
      (outs outs' : List ℕ) (room : length outs ≡ length (read_circuit r).outputs) (room' : length outs' ≡ length (read_circuit r).outputs) where
    abbrev c : Circuit
    c = convert (read_circuit r)

    runs : Kept (run c (first_state c) is) (run (reduce c) (first_state c) js) × (NoXs is → NoX (first_state c) → run c (first_state c) is ≡ run (reduce c) (first_state c) js)
    runs =
        subst (λ (e : Circuit). Kept (run c (first_state c) is) (run (reduce e) (first_state e) js)
        × (NoXs is → NoX (first_state c) → run c (first_state c) is ≡ run (reduce e) (first_state e) js))
        (convert-same c (converted-formed r m m-given) (converted-order r m m-given))
        (demand-three c (converted-formed r m m-given) is js (converted-sized r m m-given is sized) replaced)

    -- the converted circuit stepped on one list, the reduced one on a list in which any x is replaced, both from the resets: each byte of the
    -- outputs and of the state that was not "x" is the same, and no call refuses
    pub demand-three-steps : KeptSteps (steps_from (read_circuit r) (left_by conversion m) outs is) (steps_from (read_circuit r) (left_by reduction s) outs' js)
    demand-three-steps = later-kept r m m-given (reduce c) (left_by reduction s) follows is js sized replaced outs outs' room room' runs.0

    -- without x in the list and the resets all bytes are the same
    pub same-steps : NoXs is → NoX (first_state (read_circuit r))
        → map shown (steps_from (read_circuit r) (left_by conversion m) outs is) ≡ map shown (steps_from (read_circuit r) (left_by reduction s) outs' js)
    same-steps x = later_same r m m-given (reduce c) (left_by reduction s) follows is js sized replaced outs outs' room room' (runs.1 x)
