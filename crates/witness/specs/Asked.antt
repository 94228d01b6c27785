-- What filling asks: room for a vector, and few x.
use Rattle.std.specs.Prelude.{ℕ, ◌+◌, ◌*◌, ◌≤◌, ◌≡◌, List, map, length, take}
use Rattle.plan.specs.declared.Counts.{Counts}
use Rattle.plan.specs.Circuit.{seven}
use Rattle.plan.specs.Step.{code_of, reset_value}
use Rattle.tables.specs.Held.{Scratch}
use Rattle.step.specs.sweep.Running.{Runs}
use Rattle.plan.specs.Fillings.{x_count}

-- the codes of n resets
abbrev pub codes_of : List ℕ → ℕ → List ℕ
codes_of resets n = map code_of (map reset_value (take n resets))

pub record Loads (codes : List ℕ) (x first : ℕ) (t : List ℕ) : Type 0 where
  pub room : first + length codes ≤ length t
  pub few : x + x_count codes ≤ 20

-- resets, room for the constant, the inputs and the state, and few x
pub record Begins (n : Counts) (resets t : List ℕ) : Type 0 where
  pub resets-long : n.L ≤ length resets
  pub room : 1 + n.I + n.L ≤ length t
  pub few : x_count (codes_of resets n.L) ≤ 20

-- tables that hold an accepted circuit in binary order, scratch that is long enough, and a whole list; few x in
-- start and list
pub record Holds (n : Counts) (latches outputs gates resets bads constraints scratch : List ℕ) (number : ℕ)
    (bytes : List ℕ) : Type 0 where
  pub inputs : List ℕ
  pub runs : Runs n (seven inputs latches outputs gates resets bads constraints)
  pub scratch-long : Scratch n scratch
  pub whole : length bytes ≡ number * n.I
  pub few : x_count (codes_of resets n.L) + x_count bytes ≤ 20
