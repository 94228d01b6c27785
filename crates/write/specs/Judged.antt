-- What is judged before a byte is written: given tables, then the tail.
use Rattle.std.specs.Prelude.{ℕ, Bool, List, [], ◌∷◌, ◌++◌, Option}
use Rattle.plan.specs.declared.Counts.{Counts}
use Rattle.plan.specs.declared.Refusal.{Refusal}
use Rattle.plan.specs.Circuit.{seven}
use Rattle.plan.specs.Given.{Given, lent_alone, tail_stage}
use Rattle.judge.specs.Judged.{given_at, all_stages}

-- what is given, table by table
abbrev pub given_in : Counts → List ℕ → List ℕ → List ℕ → List ℕ → List ℕ → List ℕ → List ℕ → List ℕ → Given
given_in n inputs latches outputs gates resets bads constraints scratch =
    given_at n (seven inputs latches outputs gates resets bads constraints) scratch

-- 2 to 8, and 15 where it is asked
abbrev pub table_stages : Bool → Given → List (Option Refusal)
table_stages ordered g = all_stages ordered g (lent_alone g)

-- then the tail
abbrev pub writer_stages : Bool → Given → List ℕ → List (Option Refusal)
writer_stages ordered g tail = table_stages ordered g ++ (tail_stage g tail ∷ [])
