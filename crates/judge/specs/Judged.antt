-- The stages of the checks of given tables: with 15 or without, over the tables' lengths; and what 2, 3 and 4 leave
-- of them.
use Rattle.std.specs.Prelude.{ℕ, Bool, true, false, List, [], ◌∷◌, ◌++◌, length, drop, Result, Ok, Err, Option}
use Rattle.plan.specs.declared.Counts.{Counts}
use Rattle.plan.specs.declared.Refusal.{Refusal}
use Rattle.plan.specs.declared.Refusal.TheVariants.{LargeCount, WrongSum, ShortTable, NotInOrder}
use Rattle.plan.specs.Refusals.{stage}
use Rattle.plan.specs.Circuit.{Tables, Lent, against, least_short, words_to_work}
use Rattle.plan.specs.Header.{text, list_of, over, adds}
use Rattle.plan.specs.Given.{Given, counted, failing, stages, order_stage}
use Rattle.tables.specs.declared.Sizes.{Sizes}
use Rattle.tables.specs.Lengths.{lengths_in, sizes_of, shorter_of}

-- what is given, at a moment
abbrev pub given_at : Counts → Tables → List ℕ → Given
given_at n t scratch = record { counts = n; tables = t; scratch = scratch }

-- 2, 3 and 4, by the lengths of the tables
abbrev pub lent_stages : Counts → List ℕ → List (Option Refusal)
lent_stages n lengths =
    stage LargeCount (over (counted 1 (list_of n)))
    ∷ stage WrongSum (failing (adds text n))
    ∷ stage ShortTable (least_short (against 1 (words_to_work n) lengths))
    ∷ []

-- 15 for the callers that ask it
abbrev pub then_order : Bool → Given → List (Option Refusal)
then_order true g = order_stage g ∷ []
then_order false g = []

abbrev pub all_stages : Bool → Given → List Lent → List (Option Refusal)
all_stages ordered g lent = stages g lent ++ then_order ordered g

-- 5, 6, 7, 8 and 15 over the circuit that the tables hold
abbrev pub circuit_stages : Bool → Counts → Tables → List (Option Refusal)
circuit_stages ordered n t = drop 3 (all_stages ordered (record { counts = n; tables = t; scratch = [] }) [])

-- of two tables that bear one number the shorter counts
abbrev pub lent_shorter : Given → Sizes → List Lent
lent_shorter g to =
    against 1 (words_to_work g.counts) (lengths_in (shorter_of (sizes_of g.tables) to) (length g.scratch))

-- an answer of tables that are not in binary order
abbrev pub unordered : Result Unit Refusal → Bool → Result Unit Refusal
unordered (Err r) ordered = Err r
unordered (Ok tt) true = Err (NotInOrder 0)
unordered (Ok tt) false = Ok tt
