-- What is made of a circuit between reading and writing: converted, then reduced, then without its unused gates, as
-- far as is wanted.
use Rattle.std.specs.Prelude.{ℕ, ◌≡◌, Bool, true, false, List, ◌++◌, Result}
use Rattle.plan.specs.declared.Refusal.{Refusal}
use Rattle.plan.specs.declared.Counts.{Counts}
use Rattle.plan.specs.Circuit.{Circuit, seven}
use Rattle.plan.specs.Text.{text_of}
use Rattle.plan.specs.Binary.{binary_of, binary_order}
use Rattle.plan.specs.Given.{given_circuit}
use Rattle.plan.specs.Convert.{convert}
use Rattle.plan.specs.Reduce.{reduce}
use Rattle.plan.specs.Drop.{drop_unused}
use Rattle.plan.specs.Outcome.{put_bytes}
use Rattle.tables.specs.Lengths.{sizes_of}
use Rattle.write.specs.Judged.{given_in}
use Rattle.whole.specs.Opening.{Ready}
use Rattle.whole.specs.Parts.{binary_by}

-- reduced, and without unused gates or not
abbrev pub lessened : Bool → Circuit → Circuit
lessened false c = reduce c
lessened true c = drop_unused (reduce c)

-- the bytes: text, or binary as far as is wanted
abbrev pub bytes_of : Bool → Bool → Bool → Circuit → List ℕ
bytes_of true reduced dropped c = text_of c
bytes_of false false dropped c = binary_of (convert c)
bytes_of false true dropped c = binary_of (lessened dropped (convert c))

-- text is wanted of a binary file that is not reduced
abbrev pub as_text : Bool → Result (Bool × Counts × ℕ) Refusal → Bool
as_text true h = false
as_text false h = binary_by h

-- the items of a slice as it is handed over
abbrev pub Part : Type 0
Part = List ℕ

abbrev pub Parts : Type 1 → Type 1
Parts T = Part → Part → Part → Part → Part → Part → Part → T

-- the tables of a circuit that no check refuses, with its tail, beside tables that are long enough to make a circuit in
abbrev pub StandsReady : Counts → Parts (Parts (Part → Part → Type 0))
StandsReady n i l o a r b c i' l' o' a' r' b' c' s tail =
    Ready (given_in n i l o a r b c s) tail (sizes_of (seven i' l' o' a' r' b' c'))

abbrev pub InOrder : Counts → Parts (Part → Type 0)
InOrder n i l o a r b c s = binary_order (given_circuit (given_in n i l o a r b c s)) ≡ true

-- the bytes of the circuit and then the tail are put into the buffer, or 11: the buffer before, and after
abbrev pub Puts : (Circuit → List ℕ) → Counts → Parts (Part → Part → Part → Part → Result ℕ Refusal → Type 0)
Puts bytes n i l o a r b c s tail out out' answer =
    record { answer = answer; out = out' } ≡ put_bytes out 0 (bytes (given_circuit (given_in n i l o a r b c s)) ++ tail)

abbrev pub PutsBinary : (Circuit → Circuit) → Counts → Parts (Part → Part → Part → Part → Result ℕ Refusal → Type 0)
PutsBinary made n i l o a r b c s tail out out' answer = Puts (λ d. binary_of (made d)) n i l o a r b c s tail out out' answer
