-- What is asked where the vectors of a report are stepped, and what table 6 holds while they are.
use Rattle.std.specs.Prelude.{ℕ, ◌*◌, ◌≤◌, ◌<◌, ◌≡◌, List, [], ◌∷◌, ◌++◌, length}
use Rattle.plan.specs.declared.Counts.{Counts}
use Rattle.plan.specs.Circuit.{Circuit, Tables, seven}
use Rattle.plan.specs.Step.{Value, next_of, Step, step_of}
use Rattle.tables.specs.Held.{Scratch}
use Rattle.step.specs.sweep.Running.{these, Runs, Rests}
use Rattle.plan.specs.Report.{in_turn, output_along, latch_along, most_steps}
use Rattle.report.specs.needles.Tally.{kept}

-- the words of all needles after some steps
abbrev pub tally : Counts → List Step → List ℕ
tally n steps = in_turn (λ i. kept (output_along steps i)) n.O ++ in_turn (λ i. kept (latch_along steps i)) n.L

-- a turn: tables that hold an accepted circuit in binary order, scratch that holds a state between two steps, a
-- vector, and table 6, which holds the words of all needles after fewer steps than a report may have
pub record Turns (n : Counts) (latches outputs gates scratch ins six : List ℕ) : Type 0 where
  pub others : Tables
  pub state : List Value
  pub runs : Runs n (these others latches outputs gates)
  pub scratch-long : Scratch n scratch
  pub state-length : length state ≡ n.L
  pub rests : Rests n state scratch
  pub vector : length ins ≡ n.I
  pub done : List Step
  pub rest : List ℕ
  pub few : length done < most_steps
  pub held : six ≡ tally n done ++ rest

-- what it leaves
pub record Turned (n : Counts) (c : Circuit) (s i : List Value) (done : List Step) (rest t six : List ℕ) : Type 0 where
  pub rests : Rests n (next_of c s i) t
  pub held : six ≡ tally n (done ++ (step_of c s i ∷ [])) ++ rest

-- the same before the first vector of a whole list
pub record Tallies (n : Counts) (latches outputs gates scratch : List ℕ) (number : ℕ)
    (bytes six : List ℕ) : Type 0 where
  pub others : Tables
  pub state : List Value
  pub runs : Runs n (these others latches outputs gates)
  pub scratch-long : Scratch n scratch
  pub state-length : length state ≡ n.L
  pub rests : Rests n state scratch
  pub whole : length bytes ≡ number * n.I
  pub few : number ≤ most_steps
  pub rest : List ℕ
  pub held : six ≡ tally n [] ++ rest

-- the same before the first state stands
pub record Fills (n : Counts) (latches outputs gates resets scratch : List ℕ) (number : ℕ)
    (bytes six : List ℕ) : Type 0 where
  pub inputs : List ℕ
  pub bads : List ℕ
  pub constraints : List ℕ
  pub runs : Runs n (seven inputs latches outputs gates resets bads constraints)
  pub scratch-long : Scratch n scratch
  pub whole : length bytes ≡ number * n.I
  pub few : number ≤ most_steps
  pub rest : List ℕ
  pub held : six ≡ tally n [] ++ rest
