-- A run without x: of an accepted circuit, from a state and on vectors without x, no value of any step is x.
use mathlib.Core.Path.{◌≡◌}
use mathlib.Core.List.{List, [], ◌∷◌}
use lib.ListN.{length}
use Rattle.plan.specs.Circuit.{Circuit, nexts}
use Rattle.plan.specs.Reading.{WellFormed}
use Rattle.plan.specs.Step.{Value, next_of, Step, run}
use Rattle.laws.proofs.Running.Accepted.{accepted}
use Rattle.laws.proofs.Running.Runs.{Sized, next-length}
use Rattle.laws.proofs.Running.WithoutX.{NoX, NoXs, lits-nox}

-- no value of a step is x, and of any step
pub record StepNoX (s : Step) : Type 0 where
  pub state : NoX s.state
  pub inputs : NoX s.inputs
  pub outputs : NoX s.outputs
  pub bads : NoX s.bads
  pub constraints : NoX s.constraints
  pub next : NoX s.next

abbrev pub RunNoX : List Step → Type 0
RunNoX [] = Unit {0}
RunNoX (s ∷ steps) = StepNoX s × RunNoX steps

module _ (c : Circuit) (w : WellFormed c) where
  pub run-nox : (list : List (List Value)) → Sized (length c.inputs) list → NoXs list → (s : List Value) → length s ≡ length c.latches
      → NoX s → RunNoX (run c s list)
  run-nox [] sized x s h k = tt
  run-nox (i ∷ list) sized x s h k =
      let ok = accepted c w in
      let next = lits-nox c ok s i h sized.0 k x.0 (nexts c.latches) ok.used-next in (
        record {
          state = k;
          inputs = x.0;
          outputs = lits-nox c ok s i h sized.0 k x.0 c.outputs ok.used-output;
          bads = lits-nox c ok s i h sized.0 k x.0 c.bads ok.used-bad;
          constraints = lits-nox c ok s i h sized.0 k x.0 c.constraints ok.used-constraint;
          next = next;
        },
        run-nox list sized.1 x.1 (next_of c s i) (next-length c s i) next,
      )
