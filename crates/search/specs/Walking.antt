-- The way back from a row to its start, and the bytes of both.
use Rattle.std.specs.Prelude.{ℕ, suc, ◌+◌, ◌*◌, ◌≤◌, ◌<◌, ◌≡◌, cond, List, ◌++◌, map, leb, length, Result, Ok, Err}
use Rattle.plan.specs.declared.Counts.{Counts}
use Rattle.plan.specs.declared.Refusal.{Refusal}
use Rattle.plan.specs.declared.Refusal.TheVariants.{ShortBuffer}
use Rattle.plan.specs.declared.Happening.{Happening}
use Rattle.plan.specs.declared.Happening.TheVariants.{Can}
use Rattle.plan.specs.Circuit.{flat}
use Rattle.plan.specs.Step.{code_of}
use Rattle.plan.specs.Outcome.{put}
use Rattle.plan.specs.Search.{System, Way, onward, bits}
use Rattle.search.specs.Rows.{at, Rows}

-- rows that lead back from a place
pub record Walks (met : List ℕ) (place : ℕ) : Type 0 where
  pub y : System
  pub ways : List Way
  pub rows : Rows y ways met
  pub there : place < length ways
  pub long : 3 * length ways ≤ length met
  pub few : length ways ≤ 1048576

-- a start and a list as bytes
abbrev pub way_codes : Counts → Way → List ℕ
way_codes n w = map code_of (bits n.L w.start) ++ flat (map (map code_of) (map (bits n.I) w.list))

abbrev pub StepsTo : List ℕ → ℕ → ℕ → Type 0
StepsTo met place r =
    (y : System) (ways : List Way) → Rows y ways met → place < length ways → (r ≡ suc (length (at ways place).list)) × (r ≤ suc place)

-- room for the start and so many steps
pub record Stores (n : Counts) (met : List ℕ) (place steps : ℕ) (out : List ℕ) : Type 0 where
  pub walks : Walks met place
  pub few-latches : n.L ≤ 20
  pub few-inputs : n.I ≤ 20
  pub many : StepsTo met place steps
  pub room : n.L + steps * n.I ≤ length out

abbrev pub StoresWay : Counts → List ℕ → ℕ → ℕ → ℕ → List ℕ → List ℕ → Type 0
StoresWay n met place m steps out out' =
    (y : System) (ways : List Way) → Rows y ways met → place < length ways → out' ≡ put out 0 (way_codes n (onward y (at ways place) m))

-- what is told: the steps, or how many bytes are needed
abbrev pub Tells : Counts → List ℕ → ℕ → ℕ → ℕ → List ℕ → Result Happening Refusal → List ℕ → Type 0
Tells n met place m tries out r out' =
    (y : System) (ways : List Way) → Rows y ways met → place < length ways
    → (r ≡ cond (leb (length (way_codes n (onward y (at ways place) m))) (length out)) (Ok (Can (length (onward y (at ways place) m).list) tries))
    (Err (ShortBuffer (length (way_codes n (onward y (at ways place) m))))))
    × (out' ≡ cond (leb (length (way_codes n (onward y (at ways place) m))) (length out)) (put out 0 (way_codes n (onward y (at ways place) m))) out)
