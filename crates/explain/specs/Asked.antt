-- What is asked on the way: vectors of the right length, a literal within range, room for the marks.
use Rattle.std.specs.Prelude.{ℕ, ◌+◌, ◌*◌, ◌<◌, ◌≤◌, ◌≡◌, List, [], ◌∷◌, length, Result}
use Rattle.plan.specs.declared.Refusal.{Refusal}
use Rattle.plan.specs.declared.Counts.{Counts}
use Rattle.plan.specs.Literals.{most, var_of}
use Rattle.plan.specs.Refusals.{first_of}
use Rattle.plan.specs.Circuit.{Circuit, cleared}
use Rattle.plan.specs.Step.{Value}
use Rattle.plan.specs.Given.{room_stage}
use Rattle.laws.proofs.Tables.{gate_at}
use Rattle.tables.specs.Held.{Scratch}
use Rattle.step.specs.sweep.Running as running
use Rattle.drop.specs.Marks.{Below}
use Rattle.plan.specs.Explain.{ExplainEntry, ExplainExit, marks_asked, output_stage, explained_by}

-- a step's values stand in scratch
abbrev pub Settled : Counts → Circuit → List Value → List Value → List ℕ → Type 0
Settled n c s i t = running.Stepped n c s i t

-- a state and inputs
pub record Vectors (n : Counts) (state ins : List ℕ) : Type 0 where
  pub state-length : length state ≡ n.L
  pub inputs-length : length ins ≡ n.I

-- gates whose variables have words, a literal's variable has one, and marks fit into their buffer
pub record Asked (n : Counts) (gates : List ℕ) (l : ℕ) (t marks : List ℕ) : Type 0 where
  pub most-M : n.M ≤ most
  pub most-O : n.O ≤ most
  pub sum : n.I + n.L + n.A ≤ n.M
  pub gates-long : 3 * n.A ≤ length gates
  pub below : (k : ℕ) → k < n.A → Below (n.M + 1) (gate_at gates k)
  pub literal : var_of l < n.M + 1
  pub scratch : Scratch n t
  pub room : n.L + n.I ≤ length marks

-- what is answered and left in the buffer where tables and vectors are good: 17 and 11 are left to judge
abbrev pub Explains : ExplainEntry → Result Unit Refusal → List ℕ → Type 0
Explains e r marks =
    ◌≡◌ {A = ExplainExit} (record { answer = r; scratch = cleared e.circuit.scratch; marks = marks })
    (explained_by (first_of (output_stage e ∷ room_stage e.marks (marks_asked e) ∷ [])) e)
