-- The starts in their rows.
use Rattle.std.specs.Prelude.{ℕ, ◌+◌, ◌*◌, ◌^◌, ◌≤◌, ◌<◌, ◌≡◌, false, List, map, length, get_or}
use Rattle.tables.specs.bitmap.Bitmap.{is_on}
use Rattle.plan.specs.declared.Counts.{Counts}
use Rattle.plan.specs.Circuit.{has, seven}
use Rattle.tables.specs.Held.{Scratch}
use Rattle.step.specs.sweep.Running.{Runs}
use Rattle.plan.specs.Step.{value_of}
use Rattle.witness.specs.Asked.{codes_of}
use Rattle.plan.specs.Search.{as_number, up_to, fill_both}

-- the number of filling k of the resets
abbrev pub start_of : ℕ → Counts → List ℕ → ℕ → ℕ
start_of split n resets k = as_number (map value_of (fill_both split k (codes_of resets n.L)))

pub record Numbers (n : Counts) (resets scratch : List ℕ) : Type 0 where
  pub resets-long : n.L ≤ length resets
  pub few-latches : n.L ≤ 20
  pub few-inputs : n.I ≤ 20
  pub room : 1 + n.I + n.L ≤ length scratch

pub record Starts (n : Counts) (resets : List ℕ) (total : ℕ) (scratch met marks : List ℕ) : Type 0 where
  pub numbers : Numbers n resets scratch
  pub few : total ≤ 2 ^ n.L
  pub met-long : 3 * 2 ^ n.L ≤ length met
  pub marks-long : 2 ^ n.L ≤ 32 * length marks
  pub blank : (s : ℕ) → is_on marks 0 s ≡ false

pub record Started (split : ℕ) (n : Counts) (resets : List ℕ) (total : ℕ) (met marks : List ℕ) : Type 0 where
  pub state : (k : ℕ) → k < total → get_or met (3 * k) 0 ≡ start_of split n resets k
  pub from : (k : ℕ) → k < total → get_or met (3 * k + 1) 0 ≡ 0
  pub marked : (s : ℕ) → s < 2 ^ n.L → is_on marks 0 s ≡ has s (up_to (start_of split n resets) 0 total)

-- tables that hold an accepted circuit in binary order, of few latches and inputs; room, and no mark
pub record Seeks (n : Counts) (latches outputs gates resets bads constraints scratch met marks : List ℕ) : Type 0 where
  pub inputs : List ℕ
  pub runs : Runs n (seven inputs latches outputs gates resets bads constraints)
  pub scratch-long : Scratch n scratch
  pub few-latches : n.L ≤ 20
  pub few-inputs : n.I ≤ 20
  pub met-long : 3 * 2 ^ n.L ≤ length met
  pub marks-long : 2 ^ n.L ≤ 32 * length marks
  pub blank : (s : ℕ) → is_on marks 0 s ≡ false
