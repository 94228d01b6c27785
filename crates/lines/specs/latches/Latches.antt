-- Lines of latches, whether they define, as in text, or not, as in binary: their numbers, and what reading them leaves.
use Rattle.std.specs.Prelude.{ℕ, ◌+◌, ◌≤◌, ◌<◌, ◌≡◌, Bool, true, false, cond, List, [], ◌∷◌, map, get_or, take, drop, Result, Ok, Err, Option, Some, None}
use Rattle.plan.specs.declared.Refusal.{Refusal}
use Rattle.plan.specs.declared.Refusal.TheVariants.{OutOfRange}
use Rattle.plan.specs.Literals.{lit_of, in_range, is_reset}
use Rattle.plan.specs.Refusals.{Parse, got, refused, ◌then◌, unless}
use Rattle.plan.specs.Circuit.{Latch, latch_line, latch_of, literal_of, flat}
use Rattle.plan.specs.Bytes.{Placed, numbers, values, outside, wrong_reset, own_of, reset_after}
use Rattle.plan.specs.Binary.{latches_from}
use Rattle.plan.specs.Given.{or_else}
use Rattle.plan.specs.Outcome.{put}
use Rattle.laws.proofs.Marks.{Agrees}
use Rattle.lines.specs.Rows.{seen_after}

-- the literals of a line
abbrev pub literals : Bool → ℕ
literals true = 2
literals false = 1

-- own literal, next state and reset, those left off being 0
abbrev pub frame_of : Bool → ℕ → List ℕ → List ℕ
frame_of true own row = get_or row 0 0 ∷ get_or row 1 0 ∷ get_or row 2 0 ∷ []
frame_of false own row = own ∷ get_or row 0 0 ∷ get_or row 1 0 ∷ []

-- the place of the first of three numbers that is out of its range
abbrev pub judged : ℕ → ℕ → ℕ → ℕ → ℕ → ℕ → ℕ → Option ℕ
judged m own next reset p q r =
    cond (in_range true m own) (cond (in_range false m next) (cond (is_reset own reset) None (Some r)) (Some q)) (Some p)

-- one line by 1 and 5
abbrev pub faults : Bool → ℕ → ℕ → List Placed → Option ℕ
faults d m v xs =
    or_else (outside d m (take (literals d) xs)) (wrong_reset (own_of d v (values xs)) (drop (literals d) xs))

abbrev pub latch_row : List ℕ → Bool → ℕ → ℕ → ℕ → ℕ → Parse (List ℕ)
latch_row file d m more v at =
    numbers file (literals d) (literals d + more) at then λ xs next. unless (faults d m v xs) OutOfRange
    (got (values xs) next)

-- the latch of a line, and of lines
abbrev pub latch_in : Bool → ℕ → List ℕ → Latch
latch_in true v row = latch_of row
latch_in false v row = record { current = lit_of v; next = literal_of row }

abbrev pub latches_in : Bool → ℕ → List (List ℕ) → List Latch
latches_in true v rows = map latch_of rows
latches_in false v rows = latches_from v (map literal_of rows)

-- where a line does not define, the latch's variable is one of the circuit's; of n lines
abbrev pub Own : Bool → ℕ → ℕ → Type 0
Own true m v = Unit {0}
Own false m v = (0 < v) × (v ≤ m)

abbrev pub OwnAll : Bool → ℕ → ℕ → ℕ → Type 0
OwnAll true m first n = Unit {0}
OwnAll false m first n = (0 < first) × (first + n ≤ m + 1)

-- what n lines leave: the latches and their resets from the start of their tables, and marks of all that is
-- defined; after a refusal only the refusal counts
abbrev pub LatchesSay : Bool → ℕ → ℕ → List ℕ → List ℕ → List ℕ → Parse (List (List ℕ)) → Result ℕ Refusal → List ℕ → List ℕ
    → List ℕ → Type 0
LatchesSay d m v seen table resets (got rows next) r table' resets' marks' =
    (r ≡ Ok next) × (table' ≡ put table 0 (flat (map latch_line (latches_in d v rows))))
    × (resets' ≡ put resets 0 (map (reset_after (literals d)) rows)) × Agrees m (seen_after d seen rows) marks'
LatchesSay d m v seen table resets (refused r') r table' resets' marks' = r ≡ Err r'
