-- One step: after conversion the outputs and next states have exactly the values before, in three values; after reduction they are the same
-- wherever they were 0 or 1, and everywhere with no x.
use mathlib.Core.Path.{◌≡◌}
use mathlib.Core.Bool.{true}
use mathlib.Core.List.{List}
use lib.ListN.{length}
use Rattle.plan.specs.Circuit.{Circuit, nexts}
use Rattle.plan.specs.Reading.{WellFormed}
use Rattle.plan.specs.Binary.{binary_order}
use Rattle.plan.specs.Convert.{convert}
use Rattle.plan.specs.Reduce.{reduce}
use Rattle.plan.specs.Step.{Value, outputs_of, bads_of, constraints_of, next_of, step_of}
use Rattle.laws.proofs.Reading.Runs.{order-exactly}
use Rattle.laws.proofs.Running.Refinement.{Les, les-refl}
use Rattle.laws.proofs.Running.Accepted.{accepted}
use Rattle.laws.proofs.Running.InOrder.{well-ordered}
use Rattle.laws.proofs.Running.ConvertStep.{convert-outputs, convert-bads, convert-constraints, convert-next}
use Rattle.laws.proofs.Running.ReduceStep.{reduce-outputs, reduce-bads, reduce-constraints, reduce-next}
use Rattle.laws.proofs.Running.WithoutX.{NoX, les-eq, lits-nox}

module _ (c : Circuit) (w : WellFormed c) (state ins : List Value) (ls : length state ≡ length c.latches)
    (li : length ins ≡ length c.inputs) where
  pub convert-step : step_of (convert c) state ins ≡ step_of c state ins
  convert-step = λ i. record {
    state = state;
    inputs = ins;
    outputs = convert-outputs c (accepted c w) state ins ls li i;
    bads = convert-bads c (accepted c w) state ins ls li i;
    constraints = convert-constraints c (accepted c w) state ins ls li i;
    next = convert-next c (accepted c w) state ins ls li i;
  }

  module _ (t : binary_order c ≡ true) where
    outputs-kept : Les (outputs_of c state ins) (outputs_of (reduce c) state ins)
    outputs-kept = reduce-outputs c (well-ordered c ((order-exactly c).0 t) w) state state ins ins (les-refl state) (les-refl ins)

    bads-kept : Les (bads_of c state ins) (bads_of (reduce c) state ins)
    bads-kept = reduce-bads c (well-ordered c ((order-exactly c).0 t) w) state state ins ins (les-refl state) (les-refl ins)

    constraints-kept : Les (constraints_of c state ins) (constraints_of (reduce c) state ins)
    constraints-kept = reduce-constraints c (well-ordered c ((order-exactly c).0 t) w) state state ins ins (les-refl state) (les-refl ins)

    next-kept : Les (next_of c state ins) (next_of (reduce c) state ins)
    next-kept = reduce-next c (well-ordered c ((order-exactly c).0 t) w) state state ins ins (les-refl state) (les-refl ins)

    pub reduce-step : Les (outputs_of c state ins) (outputs_of (reduce c) state ins) × Les (bads_of c state ins) (bads_of (reduce c) state ins)
        × Les (constraints_of c state ins) (constraints_of (reduce c) state ins) × Les (next_of c state ins) (next_of (reduce c) state ins)
        × (NoX state → NoX ins → step_of c state ins ≡ step_of (reduce c) state ins)
    reduce-step = (outputs-kept, bads-kept, constraints-kept, next-kept, λ hs hi. same hs hi)
      where
        same : NoX state → NoX ins → step_of c state ins ≡ step_of (reduce c) state ins
        same hs hi =
            let ok = accepted c w in
            let o = les-eq (outputs_of c state ins) (outputs_of (reduce c) state ins) outputs-kept
            (lits-nox c ok state ins ls li hs hi c.outputs ok.used-output) in
            let b = les-eq (bads_of c state ins) (bads_of (reduce c) state ins) bads-kept
            (lits-nox c ok state ins ls li hs hi c.bads ok.used-bad) in
            let k = les-eq (constraints_of c state ins) (constraints_of (reduce c) state ins) constraints-kept
            (lits-nox c ok state ins ls li hs hi c.constraints ok.used-constraint) in
            let n = les-eq (next_of c state ins) (next_of (reduce c) state ins) next-kept
            (lits-nox c ok state ins ls li hs hi (nexts c.latches) ok.used-next) in
            λ i. record { state = state; inputs = ins; outputs = o i; bads = b i; constraints = k i; next = n i }
