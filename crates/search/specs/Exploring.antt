-- The search over tables: what is met stands in rows, and has marks.
use Rattle.std.specs.Prelude.{ℕ, suc, ◌+◌, ◌-◌, ◌*◌, ◌/◌, ◌%◌, ◌^◌, ◌≤◌, ◌<◌, ◌≡◌, Bool, true, false, List, map, length, Option, Some, None}
use Rattle.tables.specs.bitmap.Bitmap.{is_on, raised}
use Rattle.plan.specs.declared.Counts.{Counts}
use Rattle.plan.specs.Circuit.{Tables, circuit_of, seven}
use Rattle.tables.specs.Held.{Scratch}
use Rattle.step.specs.sweep.Running.{Runs}
use Rattle.plan.specs.Search.{System, Way, begin, onward, never, happens, undecided, search_from, search_all, system_of}
use Rattle.search.specs.Rows.{at, Met, Rows, Marked, new_row}
use Rattle.search.specs.declared.Reach.{Reach}
use Rattle.search.specs.declared.Reach.TheVariants as reach
use Rattle.search.specs.declared.Attempt.{Attempt}
use Rattle.search.specs.Trying.{attempt}

-- room for a state that is not marked
pub record Meets (met marks : List ℕ) (reached s place m : ℕ) : Type 0 where
  pub marks-long : s / 32 < length marks
  pub room : is_on marks 0 s ≡ false → 3 * reached + 3 ≤ length met
  pub few : reached ≤ 1048576
  pub near : place < reached

-- a state that is marked leaves all as it was; another gets a row and a mark
abbrev pub MeetBy : Bool → List ℕ → List ℕ → ℕ → ℕ → ℕ → ℕ → ℕ → List ℕ → List ℕ → Type 0
MeetBy true met marks reached s place m r met' marks' = (r ≡ reached) × (met' ≡ met) × (marks' ≡ marks)
MeetBy false met marks reached s place m r met' marks' =
    (r ≡ reached + 1) × (met' ≡ new_row met reached s (place + 1) m) × (marks' ≡ raised marks 0 s)

-- after p tries
pub record Searched (split : ℕ) (n : Counts) (x : Tables) (p : ℕ) (ways : List Way) (met marks : List ℕ) : Type 0 where
  pub known : Met (system_of split (circuit_of n x)) p ways
  pub rows : Rows (system_of split (circuit_of n x)) ways met
  pub marked : Marked (2 ^ n.L) ways marks

-- one try: the state's row, and a move
pub record Turns (n : Counts) (latches outputs gates bads constraints scratch met marks : List ℕ) (reached place m : ℕ) : Type 0 where
  pub split : ℕ
  pub inputs : List ℕ
  pub resets : List ℕ
  pub tries : ℕ
  pub ways : List Way
  pub runs : Runs n (seven inputs latches outputs gates resets bads constraints)
  pub scratch-long : Scratch n scratch
  pub few-latches : n.L ≤ 20
  pub few-inputs : n.I ≤ 20
  pub met-long : 3 * 2 ^ n.L ≤ length met
  pub marks-long : 2 ^ n.L ≤ 32 * length marks
  pub searched : Searched split n (seven inputs latches outputs gates resets bads constraints) tries ways met marks
  pub count : length ways ≡ reached
  pub here : tries / (system_of split (circuit_of n (seven inputs latches outputs gates resets bads constraints))).moves ≡ place
  pub move : tries % (system_of split (circuit_of n (seven inputs latches outputs gates resets bads constraints))).moves ≡ m
  pub there : place < reached
  pub few : reached ≤ 1048576
  pub rows_long : 3 * reached ≤ length met

-- what it leaves
pub record LeftBy (split : ℕ) (n : Counts) (x : Tables) (p : ℕ) (ways : List Way) (k : ℕ) (met marks : List ℕ) : Type 0 where
  pub later : List Way
  pub count : length later ≡ k
  pub searched : Searched split n x (p + 1) later met marks
  pub follows : (a : ℕ) → search_from (system_of split (circuit_of n x)) (suc a) p ways ≡ search_from (system_of split (circuit_of n x)) a (p + 1) later

abbrev pub Turned : ℕ → Counts → Tables → ℕ → List Way → Option ℕ → List ℕ → List ℕ → Type 0
Turned split n x p ways None met marks =
    let y = system_of split (circuit_of n x) in
    (y.allows (at ways (p / y.moves)).state (p % y.moves) ≡ true) × (y.shows (at ways (p / y.moves)).state (p % y.moves) ≡ true)
    × Rows y ways met
Turned split n x p ways (Some k) met marks = LeftBy split n x p ways k met marks

-- the whole search: the starts stand in the first rows, and have their marks
pub record Explores (n : Counts) (latches outputs gates bads constraints scratch met marks : List ℕ) (starts : ℕ) : Type 0 where
  pub split : ℕ
  pub inputs : List ℕ
  pub resets : List ℕ
  pub runs : Runs n (seven inputs latches outputs gates resets bads constraints)
  pub scratch-long : Scratch n scratch
  pub few-latches : n.L ≤ 20
  pub few-inputs : n.I ≤ 20
  pub met-long : 3 * 2 ^ n.L ≤ length met
  pub marks-long : 2 ^ n.L ≤ 32 * length marks
  pub begun : Searched split n (seven inputs latches outputs gates resets bads constraints) 0
      (map begin (system_of split (circuit_of n (seven inputs latches outputs gates resets bads constraints))).starts) met marks
  pub count : length (system_of split (circuit_of n (seven inputs latches outputs gates resets bads constraints))).starts ≡ starts

-- after some tries: what is left to search
pub record Exploring (split : ℕ) (n : Counts) (x : Tables) (allowance tries reached : ℕ) (met marks : List ℕ) : Type 0 where
  pub ways : List Way
  pub count : length ways ≡ reached
  pub searched : Searched split n x tries ways met marks
  pub follows : search_all (system_of split (circuit_of n x)) allowance ≡ search_from (system_of split (circuit_of n x)) (allowance - tries) tries ways

-- what is answered: where it is shown, the place of the state and the move, and the rows that lead there
abbrev pub ExploredBy : System → ℕ → ℕ → Reach → List ℕ → Type 0
ExploredBy y most allowance (reach.Never k t) met = search_all y allowance ≡ never k t
ExploredBy y most allowance (reach.Shown place m t) met =
    (ways : List Way) × Rows y ways met × (place < length ways) × (length ways ≤ most)
    × (search_all y allowance ≡ happens (onward y (at ways place) m) t)
ExploredBy y most allowance (reach.Undecided t) met = search_all y allowance ≡ undecided t

abbrev pub Explored : ℕ → Counts → Tables → ℕ → Reach → List ℕ → Type 0
Explored split n x = ExploredBy (system_of split (circuit_of n x)) (2 ^ n.L)

-- what one try promises, and the whole search, for whatever inputs, resets and split the tables run with
abbrev pub Tried : Counts → List ℕ → List ℕ → List ℕ → List ℕ → List ℕ → ℕ → ℕ → Attempt → Type 0
Tried n latches outputs gates bads constraints s m r =
    (inputs resets : List ℕ) → Runs n (seven inputs latches outputs gates resets bads constraints)
    → r ≡ attempt (system_of 0 (circuit_of n (seven inputs latches outputs gates resets bads constraints))) s m

abbrev pub TakesTurn : Counts → List ℕ → List ℕ → List ℕ → List ℕ → List ℕ → ℕ → ℕ → ℕ → List ℕ → List ℕ → Option ℕ → List ℕ → List ℕ → Type 0
TakesTurn n latches outputs gates bads constraints reached place m met marks r met' marks' =
    (split : ℕ) (inputs resets : List ℕ) (p : ℕ) (ways : List Way) → Runs n (seven inputs latches outputs gates resets bads constraints)
    → Searched split n (seven inputs latches outputs gates resets bads constraints) p ways met marks → length ways ≡ reached
    → p / (system_of split (circuit_of n (seven inputs latches outputs gates resets bads constraints))).moves ≡ place
    → p % (system_of split (circuit_of n (seven inputs latches outputs gates resets bads constraints))).moves ≡ m
    → Turned split n (seven inputs latches outputs gates resets bads constraints) p ways r met' marks'

abbrev pub ExploresAll : Counts → List ℕ → List ℕ → List ℕ → List ℕ → List ℕ → ℕ → ℕ → List ℕ → List ℕ → Reach → List ℕ → Type 0
ExploresAll n latches outputs gates bads constraints starts allowance met marks r met' =
    (split : ℕ) (inputs resets : List ℕ) → Runs n (seven inputs latches outputs gates resets bads constraints)
    → Searched split n (seven inputs latches outputs gates resets bads constraints) 0
    (map begin (system_of split (circuit_of n (seven inputs latches outputs gates resets bads constraints))).starts) met marks
    → length (system_of split (circuit_of n (seven inputs latches outputs gates resets bads constraints))).starts ≡ starts
    → Explored split n (seven inputs latches outputs gates resets bads constraints) allowance r met'

abbrev pub SearchesAll : ℕ → Counts → List ℕ → List ℕ → List ℕ → List ℕ → List ℕ → List ℕ → ℕ → Reach → List ℕ → Type 0
SearchesAll split n latches outputs gates resets bads constraints allowance r met' =
    (inputs : List ℕ) → Runs n (seven inputs latches outputs gates resets bads constraints)
    → Explored split n (seven inputs latches outputs gates resets bads constraints) allowance r met'
