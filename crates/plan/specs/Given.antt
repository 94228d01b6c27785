-- The order of checks on given tables, as stages of which the first refusal wins.
use Rattle.std.specs.Prelude.{ℕ, ◌+◌, min, ◌-◌, ◌^◌, Bool, true, false, cond, List, [], ◌∷◌, ◌++◌, map, leb, length, Option, Some, None}
use Rattle.plan.specs.declared.Counts.{Counts}
use Rattle.plan.specs.declared.Version.TheVariants.{V19}
use Rattle.plan.specs.declared.Refusal.{Refusal}
use Rattle.plan.specs.declared.Refusal.TheVariants.{LargeCount, WrongSum, ShortTable, OutOfRange, DefinedTwice}
use Rattle.plan.specs.declared.Refusal.TheVariants.{NotDefined, Cyclic, ShortBuffer, NotInOrder}
use Rattle.plan.specs.Literals.{var_of}
use Rattle.plan.specs.Refusals.{Parse, got, refused, stage}
use Rattle.plan.specs.Circuit.{Circuit, Tables, Lent, circuit_of, lengths_of, words_to_work, against, least_short}
use Rattle.plan.specs.Circuit.{one_line, latch_line, gate_line, literal_of, vars, current_vars, resets_ok}
use Rattle.plan.specs.Bytes.{Placed, outside, twice}
use Rattle.plan.specs.Header.{text, list_of, over, adds}
use Rattle.plan.specs.Depends.{undefined_in, cyclic_in}
use Rattle.plan.specs.Binary.{binary_order}
use Rattle.plan.specs.Tail.{tail_at}

-- the counts, tables 1 to 4 and 7 to 9, and table 5, scratch
pub record Given : Type 0 where
  pub counts : Counts
  pub tables : Tables
  pub scratch : List ℕ

abbrev pub given_circuit : Given → Circuit
given_circuit g = circuit_of g.counts g.tables

-- what is lent: the given tables and scratch; with written tables, which bear the same numbers
abbrev pub lent_alone : Given → List Lent
lent_alone g = against 1 (words_to_work g.counts) (lengths_of g.tables g.scratch)

abbrev pub lent_with : Given → Tables → List Lent
lent_with g t = lent_alone g ++ against 1 (words_to_work g.counts) (lengths_of t g.scratch)

-- numbers with the places t, t + 1 ..; with one place
abbrev pub counted : ℕ → List ℕ → List Placed
counted t [] = []
counted t (n ∷ l) = record { value = n; place = t } ∷ counted (t + 1) l

abbrev pub placed : ℕ → List ℕ → List Placed
placed t [] = []
placed t (n ∷ l) = record { value = n; place = t } ∷ placed t l

abbrev pub or_else : Option ℕ → Option ℕ → Option ℕ
or_else None o = o
or_else (Some place) o = Some place

-- the place of a test that fails; the place 0
abbrev pub failing_at : ℕ → Bool → Option ℕ
failing_at place true = None
failing_at place false = Some place

abbrev pub failing : Bool → Option ℕ
failing t = failing_at 0 t

-- 5 over the lines of table t
abbrev pub outside_of : ℕ → Bool → ℕ → List (List ℕ) → Option ℕ
outside_of t d m [] = None
outside_of t d m (row ∷ rows) = or_else (outside d m (placed t row)) (outside_of t d m rows)

abbrev pub outside_in : Circuit → Option ℕ
outside_in c =
    or_else (outside_of 1 true c.M (map one_line c.inputs))
    (or_else (outside_of 2 true c.M (map latch_line c.latches))
    (or_else (outside_of 3 false c.M (map one_line c.outputs))
    (or_else (outside_of 4 true c.M (map gate_line c.gates))
    (or_else (failing_at 7 (resets_ok c.latches c.resets))
    (or_else (outside_of 8 false c.M (map one_line c.bads))
    (outside_of 9 false c.M (map one_line c.constraints)))))))

-- 6 over the lines of table t; `seen` holds the variables defined before
abbrev pub twice_of : ℕ → List ℕ → List (List ℕ) → Option ℕ
twice_of t seen [] = None
twice_of t seen (row ∷ rows) =
    or_else (twice true seen (placed t row)) (twice_of t (seen ++ (var_of (literal_of row) ∷ [])) rows)

abbrev pub twice_in : Circuit → Option ℕ
twice_in c =
    or_else (twice_of 1 [] (map one_line c.inputs))
    (or_else (twice_of 2 (vars c.inputs) (map latch_line c.latches))
    (twice_of 4 (vars c.inputs ++ current_vars c.latches) (map gate_line c.gates)))

-- 2, 3, 4, 5, 6, 7, 8 over the whole circuit
abbrev pub stages : Given → List Lent → List (Option Refusal)
stages g lent =
    stage LargeCount (over (counted 1 (list_of g.counts)))
    ∷ stage WrongSum (failing (adds text g.counts))
    ∷ stage ShortTable (least_short lent)
    ∷ stage OutOfRange (outside_in (given_circuit g))
    ∷ stage DefinedTwice (twice_in (given_circuit g))
    ∷ stage NotDefined (undefined_in (given_circuit g))
    ∷ stage Cyclic (cyclic_in (given_circuit g))
    ∷ []

-- then 15
abbrev pub order_stage : Given → Option Refusal
order_stage g = stage NotInOrder (failing (binary_order (given_circuit g)))

-- the stages of a call that asks for binary order: those of its tables, 15, and its own
abbrev pub in_order_then : Given → List (Option Refusal) → List (Option Refusal)
in_order_then g more = stages g (lent_alone g) ++ (order_stage g ∷ more)

-- then the tail by 1 and 10, with offsets within the tail
abbrev pub refusal_of : {A : Type 0} → Parse A → Option Refusal
refusal_of (got a next) = None
refusal_of (refused r) = Some r

abbrev pub tail_stage : Given → List ℕ → Option Refusal
tail_stage g tail = refusal_of (tail_at V19 tail g.counts 0)

-- 11: the length needed to hold bytes from a position on, cut at the largest number of 64 bits, where a buffer is
-- shorter
abbrev pub lacking_room : List ℕ → ℕ → List ℕ → Option ℕ
lacking_room out at bytes = cond (leb (at + length bytes) (length out)) None (Some (min (at + length bytes) (2 ^ 64 - 1)))

abbrev pub room_stage : List ℕ → List ℕ → Option Refusal
room_stage out bytes = stage ShortBuffer (lacking_room out 0 bytes)
