-- What is asked where a list is stepped, and what it shows from a state on.
use Rattle.std.specs.Prelude.{ℕ, ◌+◌, ◌≤◌, ◌≡◌, Bool, List, length}
use Rattle.plan.specs.declared.Counts.{Counts}
use Rattle.plan.specs.Literals.{most}
use Rattle.plan.specs.Circuit.{Circuit, seven}
use Rattle.plan.specs.Step.{Value, run, vectors_of, shows1}
use Rattle.tables.specs.Held.{Scratch}
use Rattle.step.specs.sweep.Lookup.{Sees}
use Rattle.step.specs.sweep.Running.{Runs, Rests, lits_of}

-- the words of outputs and of the bad states' literals
pub record Shown (n : Counts) (bads t : List ℕ) : Type 0 where
  pub most-M : n.M ≤ most
  pub most-O : n.O ≤ most
  pub outputs-long : n.M + 1 + n.O ≤ length t
  pub sees : Sees bads n.B (lits_of n) t

-- tables that hold an accepted circuit in binary order, and scratch that holds a state between two steps
pub record Starts (n : Counts) (latches outputs gates bads constraints scratch : List ℕ) : Type 0 where
  pub inputs : List ℕ
  pub resets : List ℕ
  pub state : List Value
  pub runs : Runs n (seven inputs latches outputs gates resets bads constraints)
  pub scratch-long : Scratch n scratch
  pub state-length : length state ≡ n.L
  pub rests : Rests n state scratch

-- the witness question from a state on
abbrev pub shows_from : Circuit → List Value → ℕ → List ℕ → Bool
shows_from c s number bytes = shows1 (run c s (vectors_of c number bytes))
