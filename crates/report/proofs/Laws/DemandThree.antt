-- Demand 3 for reports: after conversion and reduction, and with unused gates dropped, a list without x gives the same numbers, where no
-- reset is x.
use Prim.Native.Nat.{ℕ}
use mathlib.Core.Path.{◌≡◌, sym, ap, ap₂, ◌∙◌}
use mathlib.Core.List.{List, [], ◌∷◌, ◌++◌}
use lib.ListN.{length, length-map}
use Rattle.plan.specs.declared.Counts.{Counts}
use Rattle.plan.specs.Circuit.{Circuit}
use Rattle.plan.specs.Reading.{WellFormed}
use Rattle.plan.specs.Convert.{numbered, renumber, convert}
use Rattle.plan.specs.Reduce.{reduced, becomes, latch_becomes, reduce}
use Rattle.plan.specs.Drop.{drop_unused}
use Rattle.plan.specs.Step.{Value, Step, run, first_state}
use Rattle.laws.proofs.Running.Refinement.{les-refl}
use Rattle.laws.proofs.Running.Monotone.{Replaced}
use Rattle.laws.proofs.Running.Converted.{latches-convert}
use Rattle.laws.proofs.Running.Runs.{Sized, convert-run}
use Rattle.laws.proofs.Running.WithoutX.{NoX, NoXs}
use Rattle.laws.proofs.Running.Resets.{first-convert, first-length}
use Rattle.laws.proofs.Running.DemandThree.{demand-three}
use Rattle.laws.proofs.Walks.DemandThree.{demand-three-dropped}
use Rattle.laws.proofs.Walks.Later.{counts-drop}
use Rattle.plan.specs.Report.{numbers_of, output_along, latch_along, in_turn, needles}

-- the numbers of a list, from the resets
abbrev pub reported : Circuit → List (List Value) → List ℕ
reported c list = needles c (run c (first_state c) list)

-- of a circuit a report asks the lengths of two lists alone
same-needles : (c d : Circuit) (steps : List Step) → length c.outputs ≡ length d.outputs → length c.latches ≡ length d.latches
    → needles c steps ≡ needles d steps
same-needles c d steps o l =
    ap₂ (λ (x y : ℕ). in_turn (λ i. numbers_of (output_along steps i)) x ++ in_turn (λ i. numbers_of (latch_along steps i)) y) o l

converted-outputs : (c : Circuit) → length (convert c).outputs ≡ length c.outputs
converted-outputs c = length-map c.outputs (renumber (numbered c))

reduced-outputs : (c : Circuit) → length (reduce c).outputs ≡ length c.outputs
reduced-outputs c = length-map c.outputs (becomes (reduced c).became)

reduced-latches : (c : Circuit) → length (reduce c).latches ≡ length c.latches
reduced-latches c = length-map c.latches (latch_becomes (reduced c).became)

all-replaced : (is : List (List Value)) → Replaced is is
all-replaced [] = tt
all-replaced (i ∷ is) = (les-refl i, all-replaced is)

-- conversion changes no report, also of lists with x
pub convert-report : (c : Circuit) → WellFormed c → (is : List (List Value)) → Sized (length c.inputs) is → reported (convert c) is ≡ reported c is
convert-report c w is z =
    ap (needles (convert c)) (ap (λ (s : List Value). run (convert c) s is) (first-convert c) ∙ convert-run c w is z (first_state c) (first-length c w))
    ∙ same-needles (convert c) c (run c (first_state c) is) (converted-outputs c) (latches-convert c)

-- demand 3, after conversion and reduction
pub demand-three-report : (c : Circuit) → WellFormed c → (is : List (List Value)) → Sized (length c.inputs) is → NoXs is → NoX (first_state c)
    → reported (reduce (convert c)) is ≡ reported c is
demand-three-report c w is z x f =
    ap (needles (reduce (convert c))) (sym ((demand-three c w is is z (all-replaced is)).1 x f))
    ∙ same-needles (reduce (convert c)) c (run c (first_state c) is) (reduced-outputs (convert c) ∙ converted-outputs c)
    (reduced-latches (convert c) ∙ latches-convert c)

-- and with unused gates dropped
pub demand-three-dropped-report : (c : Circuit) → WellFormed c → (is : List (List Value)) → Sized (length c.inputs) is → NoXs is → NoX (first_state c)
    → reported (drop_unused (reduce (convert c))) is ≡ reported c is
demand-three-dropped-report c w is z x f =
    let d = drop_unused (reduce (convert c)) in
    ap (needles d) (sym ((demand-three-dropped c w is is z (all-replaced is)).1 x f))
    ∙ same-needles d c (run c (first_state c) is)
    (ap (λ (n : Counts). n.O) (counts-drop (reduce (convert c))) ∙ (reduced-outputs (convert c) ∙ converted-outputs c))
    (ap (λ (n : Counts). n.L) (counts-drop (reduce (convert c))) ∙ (reduced-latches (convert c) ∙ latches-convert c))
