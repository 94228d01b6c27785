-- Table 6, lent for a report's numbers: it is judged among the tables, of which 4 names the least that is too short.
use Rattle.std.specs.Prelude.{ℕ, List, [], ◌∷◌, ◌++◌, length, Option}
use Rattle.plan.specs.declared.Refusal.{Refusal}
use Rattle.plan.specs.Circuit.{Lent}
use Rattle.plan.specs.Given.{Given, lent_alone, stages, order_stage}

-- what is lent, with a table 6 of which this many words are needed
abbrev pub lent_sixth : Given → ℕ → List ℕ → List Lent
lent_sixth g needed six = lent_alone g ++ (record { table = 6; needed = needed; words = length six } ∷ [])

-- 2, 3, 4, 5, 6, 7, 8, then 15
abbrev pub sixth_stages : Given → ℕ → List ℕ → List (Option Refusal)
sixth_stages g needed six = stages g (lent_sixth g needed six) ++ (order_stage g ∷ [])
