-- The witness question by fillings: each x of the start and of the list is replaced by 0 or 1.
use Rattle.std.specs.Prelude.{ℕ, zero, suc, ◌+◌, ◌/◌, ◌%◌, ◌^◌, min, ◌≡◌, Bool, true, false, cond, ◌||◌, List, [], ◌∷◌, ◌++◌, map, eqb, leb, length, take, drop, Result, Ok, Err, Option, Some, None}
use Rattle.plan.specs.declared.Refusal.{Refusal}
use Rattle.plan.specs.declared.Refusal.TheVariants.{ManyX}
use Rattle.plan.specs.declared.Finding.{Finding}
use Rattle.plan.specs.declared.Finding.TheVariants.{Yes, No, Undecided}
use Rattle.plan.specs.Refusals.{stage, first_of}
use Rattle.plan.specs.Circuit.{Circuit, cleared}
use Rattle.plan.specs.Given.{given_circuit, failing_at, in_order_then}
use Rattle.plan.specs.Step.{code_of, value_of, first_state, run, vectors_of, shows1}
use Rattle.plan.specs.Outcome.{WitnessEntry, list_stage}

-- a place is x, "x"; how many are
abbrev pub is_x : ℕ → Bool
is_x b = eqb b 120

abbrev pub x_of : ℕ → ℕ
x_of b = cond (is_x b) 1 0

abbrev pub x_count : List ℕ → ℕ
x_count [] = zero
x_count (b ∷ l) = x_of b + x_count l

-- what a filling is, whatever its number: "0" or "1" in place of each x, and all else as it was
abbrev pub FillsAt : Bool → ℕ → ℕ → Type 0
FillsAt true b d = (eqb d 48 || eqb d 49) ≡ true
FillsAt false b d = d ≡ b

abbrev pub Fills : List ℕ → List ℕ → Type 0
Fills [] [] = Unit {0}
Fills [] (d ∷ m) = ⊥
Fills (b ∷ l) [] = ⊥
Fills (b ∷ l) (d ∷ m) = FillsAt (is_x b) b d × Fills l m

-- bit i of k, as "0" or "1"
abbrev pub bit_of : ℕ → ℕ → ℕ
bit_of k i = 48 + k / 2 ^ i % 2

-- filling number k puts bit i of k at x number i, in order, here from x number i on
abbrev pub fill_from : ℕ → ℕ → List ℕ → List ℕ
fill_from k i [] = []
fill_from k i (b ∷ l) = cond (is_x b) (bit_of k i) b ∷ fill_from k (i + x_of b) l

abbrev pub filling : ℕ → List ℕ → List ℕ
filling k l = fill_from k 0 l

-- the start is the first state's codes; its x are numbered before those of the list
abbrev pub start_of : Circuit → List ℕ
start_of c = map code_of (first_state c)

abbrev pub asked : Circuit → List ℕ → List ℕ
asked c bytes = start_of c ++ bytes

-- stepping a list from a start shows a 1 on some output or bad state, every constraint being 1 there and at all
-- steps before
abbrev pub shows_at : Circuit → List ℕ → ℕ → List ℕ → Bool
shows_at c start number bytes = shows1 (run c (map value_of start) (vectors_of c number bytes))

-- filling number k does
abbrev pub filled_shows : Circuit → ℕ → List ℕ → ℕ → Bool
filled_shows c number bytes k =
    let n = length (start_of c) in
    let filled = filling k (asked c bytes) in
    shows_at c (take n filled) number (drop n filled)

-- the first of n numbers from k on of which the test fails
abbrev pub first_failing : (ℕ → Bool) → ℕ → ℕ → Option ℕ
first_failing shows k zero = None
first_failing shows k (suc n) = let later = first_failing shows (suc k) n in cond (shows k) later (Some k)

-- fillings are tried from 0 up: up to the first that shows no 1, all, or the allowance
abbrev pub finding_of : Option ℕ → ℕ → ℕ → Finding
finding_of (Some k) total allowance = No (k + 1)
finding_of None total allowance = cond (leb total allowance) (Yes total) (Undecided allowance)

abbrev pub try_all : (ℕ → Bool) → ℕ → ℕ → Finding
try_all shows total allowance = finding_of (first_failing shows 0 (min total allowance)) total allowance

-- how many fillings there are
abbrev pub total_of : Circuit → List ℕ → ℕ
total_of c bytes = 2 ^ x_count (asked c bytes)

abbrev pub question : Circuit → ℕ → List ℕ → ℕ → Finding
question c number bytes allowance = try_all (filled_shows c number bytes) (total_of c bytes) allowance

-- the witness question: what that in three values is handed, and how many fillings may be tried
pub record FilledEntry : Type 0 where
  pub list : WitnessEntry
  pub allowance : ℕ

pub record FilledExit : Type 0 where
  pub answer : Result Finding Refusal
  pub scratch : List ℕ

-- 20: more than 20 x, after 12; the place is their number
abbrev pub over_x : ℕ → Option ℕ
over_x n = failing_at n (leb n 20)

abbrev pub x_stage : WitnessEntry → Option Refusal
x_stage w = stage ManyX (over_x (x_count (asked (given_circuit w.circuit) w.bytes)))

abbrev pub finding_by : Option Refusal → Finding → Result Finding Refusal
finding_by None found = Ok found
finding_by (Some r) found = Err r

abbrev pub witness : FilledEntry → FilledExit
witness e =
    let w = e.list in
    let g = w.circuit in
    record {
      answer = finding_by (first_of (in_order_then g (list_stage w ∷ x_stage w ∷ [])))
          (question (given_circuit g) w.number w.bytes e.allowance);
      scratch = cleared g.scratch;
    }
