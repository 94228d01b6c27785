-- Can it ever happen? What can happen, and a search of all states of a small circuit, breadth first.
use Rattle.std.specs.Prelude.{ℕ, zero, suc, ◌+◌, ◌*◌, ◌/◌, ◌%◌, ◌^◌, ◌<◌, max, ◌≡◌, Bool, true, false, cond, ◌&&◌, ◌||◌, ◌⊎◌, List, [], ◌∷◌, ◌++◌, map, ltb, leb, length, get_or, take, drop, Err, Option, Some, None, Result, Ok}
use Rattle.plan.specs.declared.Refusal.{Refusal}
use Rattle.plan.specs.declared.Refusal.TheVariants.{ShortTable, NotExplained, ManyLatches, ManyInputs}
use Rattle.plan.specs.declared.Happening.{Happening}
use Rattle.plan.specs.declared.Happening.TheVariants as happening
use Rattle.plan.specs.Refusals.{stage, first_of}
use Rattle.plan.specs.Circuit.{Circuit, Lent, least_short, cleared, has, flat, index}
use Rattle.plan.specs.Given.{Given, given_circuit, failing_at, room_stage, in_order_then}
use Rattle.plan.specs.Step.{Value, v0, v1, code_of, value_of, outputs_of, bads_of, constraints_of, next_of, is1, any1, all1}
use Rattle.plan.specs.Outcome.{put, all_codes, refusal_values}
use Rattle.plan.specs.Fillings.{x_count, filling, start_of, shows_at}

-- the latches before `split` are one plan's, those from there on another's. The x of each are numbered from 0, and filling number k puts bit i
-- of k at x number i of both: so the k-th x of one has the value of the k-th x of the other, and where one has more, all fillings count
abbrev pub fill_both : ℕ → ℕ → List ℕ → List ℕ
fill_both split k start = filling k (take split start) ++ filling k (drop split start)

abbrev pub x_both : ℕ → List ℕ → ℕ
x_both split start = max (x_count (take split start)) (x_count (drop split start))

abbrev pub start_at : ℕ → Circuit → ℕ → List ℕ
start_at split c k = fill_both split k (start_of c)

-- what can happen, and no search enters into it: from some filling of the start, some list without x shows a 1 on some output or bad state,
-- every constraint being 1 there and at all steps before
pub record CanHappen (split : ℕ) (c : Circuit) : Type 0 where
  pub filling : ℕ
  pub number : ℕ
  pub bytes : List ℕ
  pub sized : length bytes ≡ number * length c.inputs
  pub codes : all_codes bytes ≡ true
  pub without-x : x_count bytes ≡ 0
  pub shows : shows_at c (start_at split c filling) number bytes ≡ true

-- some literals alone are looked at, as outputs: the bad states, or one output
abbrev pub watching : List ℕ → Circuit → Circuit
watching literals c = record {
  M = c.M;
  inputs = c.inputs;
  latches = c.latches;
  resets = c.resets;
  outputs = literals;
  bads = [];
  constraints = c.constraints;
  gates = c.gates;
}

abbrev pub watched : ℕ → Circuit → Circuit
watched zero c = watching c.bads c
watched (suc k) c = watching (get_or c.outputs k 0 ∷ []) c

-- a vector without x as a number, bit i at place i; and back
abbrev pub bit_value : ℕ → Value
bit_value zero = v0
bit_value (suc b) = v1

abbrev pub bits : ℕ → ℕ → List Value
bits zero k = []
bits (suc n) k = bit_value (k % 2) ∷ bits n (k / 2)

abbrev pub as_number : List Value → ℕ
as_number [] = zero
as_number (a ∷ values) = cond (is1 a) 1 0 + 2 * as_number values

-- what is searched: the states to start from, how many moves there are at each state, whether a move is allowed, whether it shows what
-- is looked for, and where it leads
pub record System : Type 0 where
  pub starts : List ℕ
  pub moves : ℕ
  pub allows : ℕ → ℕ → Bool
  pub shows : ℕ → ℕ → Bool
  pub next : ℕ → ℕ → ℕ

-- a circuit: states and moves are numbers of L and of I bits, and a start is a filling of the resets
abbrev pub up_to : (ℕ → ℕ) → ℕ → ℕ → List ℕ
up_to f k zero = []
up_to f k (suc n) = f k ∷ up_to f (suc k) n

abbrev pub start_number : ℕ → Circuit → ℕ → ℕ
start_number split c k = as_number (map value_of (start_at split c k))

abbrev pub system_of : ℕ → Circuit → System
system_of split c = record {
  starts = up_to (start_number split c) 0 (2 ^ x_both split (start_of c));
  moves = 2 ^ length c.inputs;
  allows = λ s m. all1 (constraints_of c (bits (length c.latches) s) (bits (length c.inputs) m));
  shows = λ s m. any1 (outputs_of c (bits (length c.latches) s) (bits (length c.inputs) m))
      || any1 (bads_of c (bits (length c.latches) s) (bits (length c.inputs) m));
  next = λ s m. as_number (next_of c (bits (length c.latches) s) (bits (length c.inputs) m));
}

-- moves from a state on show it: at some step, every move there and before being allowed
abbrev pub shows_by : System → ℕ → List ℕ → Bool
shows_by y s [] = false
shows_by y s (m ∷ list) = y.allows s m && (y.shows s m || shows_by y (y.next s m) list)

-- moves from s on lead to t, each allowed
abbrev pub Leads : System → ℕ → List ℕ → ℕ → Type 0
Leads y s [] t = s ≡ t
Leads y s (m ∷ list) t = (m < y.moves) × (y.allows s m ≡ true) × Leads y (y.next s m) list t

-- there are so many moves
abbrev pub AllMoves : System → List ℕ → Type 0
AllMoves y [] = Unit {0}
AllMoves y (m ∷ list) = (m < y.moves) × AllMoves y list

-- a state is reached: from some start by some moves
abbrev pub Reached : System → ℕ → Type 0
Reached y t = (s : ℕ) × (list : List ℕ) × (has s y.starts ≡ true) × Leads y s list t

-- lists of numbers in order: less at the first place where they differ
abbrev pub Before : List ℕ → List ℕ → Type 0
Before [] l = ⊥
Before (a ∷ k) [] = ⊥
Before (a ∷ k) (b ∷ l) = (a < b) ⊎ ((a ≡ b) × Before k l)

-- a start by its number, and the moves from there
abbrev pub ranked : System → ℕ → List ℕ → List ℕ
ranked y s list = index s y.starts ∷ list

-- the list of moves that is looked for: it shows it, no shorter one does, and none as short that stands before it does
pub record Best (y : System) (s : ℕ) (list : List ℕ) : Type 0 where
  pub from : has s y.starts ≡ true
  pub moves : AllMoves y list
  pub shows : shows_by y s list ≡ true
  pub shortest : (r : ℕ) (other : List ℕ) → has r y.starts ≡ true → AllMoves y other → length other < length list
      → shows_by y r other ≡ false
  pub foremost : (r : ℕ) (other : List ℕ) → has r y.starts ≡ true → AllMoves y other → length other ≡ length list
      → Before (ranked y r other) (ranked y s list) → shows_by y r other ≡ false

-- a state that was met, and the start and the moves by which it was met first
pub record Way : Type 0 where
  pub start : ℕ
  pub list : List ℕ
  pub state : ℕ

abbrev pub begin : ℕ → Way
begin s = record { start = s; list = []; state = s }

abbrev pub state_of : Way → ℕ
state_of w = w.state

abbrev pub onward : System → Way → ℕ → Way
onward y w m = record { start = w.start; list = w.list ++ (m ∷ []); state = y.next w.state m }

-- a state is met once
abbrev pub meet : List Way → Way → List Way
meet met w = cond (has w.state (map state_of met)) met (met ++ (w ∷ []))

-- the states that are met stand in a row, and try number p is move p % moves at the state number p / moves: it comes past the last state,
-- or shows it, or leaves states met
pub data Tried : Type 0 where
  past : Tried
  shown : Way → Tried
  left : List Way → Tried

abbrev pub try_move : System → List Way → Way → ℕ → Tried
try_move y met w m =
    cond (y.allows w.state m) (cond (y.shows w.state m) (shown (onward y w m)) (left (meet met (onward y w m)))) (left met)

abbrev pub try_at : System → ℕ → List Way → Tried
try_at y p met =
    cond (ltb (p / y.moves) (length met)) (try_move y met (get_or met (p / y.moves) (begin 0)) (p % y.moves)) past

-- the answer: it never happens, and how many states are reached; a shortest way to it; or the allowance is used up. With the tries made
pub data Found : Type 0 where
  never : ℕ → ℕ → Found
  happens : Way → ℕ → Found
  undecided : ℕ → Found

abbrev pub at_end : Tried → ℕ → List Way → Found
at_end past p met = never (length met) p
at_end (shown w) p met = undecided p
at_end (left met') p met = undecided p

abbrev pub go_on : (List Way → Found) → Tried → ℕ → List Way → Found
go_on later past p met = never (length met) p
go_on later (shown w) p met = happens w (p + 1)
go_on later (left met') p met = later met'

-- from try number p on, with an allowance for so many more
abbrev pub search_from : System → ℕ → ℕ → List Way → Found
search_from y zero p met = at_end (try_at y p met) p met
search_from y (suc a) p met = go_on (λ (later : List Way). search_from y a (p + 1) later) (try_at y p met) p met

abbrev pub search_all : System → ℕ → Found
search_all y allowance = search_from y allowance 0 (map begin y.starts)

-- the question
abbrev pub can_happen : ℕ → Circuit → ℕ → Found
can_happen split c allowance = search_all (system_of split c) allowance

-- a way as bytes: the start, L, and the list, I for each vector
abbrev pub start_bytes : Circuit → Way → List ℕ
start_bytes c w = map code_of (bits (length c.latches) w.start)

abbrev pub list_bytes : Circuit → Way → List ℕ
list_bytes c w = flat (map (map code_of) (map (bits (length c.inputs)) w.list))

abbrev pub way_bytes : Circuit → Found → List ℕ
way_bytes c (never states tries) = []
way_bytes c (happens w tries) = start_bytes c w ++ list_bytes c w
way_bytes c (undecided tries) = []

-- the call: given tables, how many latches are the first plan's, what is watched (0 the bad states, k + 1 output k), how many tries may be made,
-- table 10 for the states met, three words each, table 11 for their marks, a bit each, and a buffer for the start and the list
pub record SearchEntry : Type 0 where
  pub circuit : Given
  pub split : ℕ
  pub watch : ℕ
  pub allowance : ℕ
  pub met : List ℕ
  pub marks : List ℕ
  pub out : List ℕ

pub record SearchExit : Type 0 where
  pub answer : Result Happening Refusal
  pub scratch : List ℕ
  pub met : List ℕ
  pub marks : List ℕ
  pub out : List ℕ

-- never: 0, it can: 1, undecided: 2; then the states reached or the steps, and the tries
abbrev pub happening_values : Result Happening Refusal → List ℕ
happening_values (Ok (happening.Never states tries)) = 0 ∷ 0 ∷ 0 ∷ states ∷ tries ∷ []
happening_values (Ok (happening.Can steps tries)) = 0 ∷ 0 ∷ 1 ∷ steps ∷ tries ∷ []
happening_values (Ok (happening.Undecided tries)) = 0 ∷ 0 ∷ 2 ∷ 0 ∷ tries ∷ []
happening_values (Err r) = refusal_values r (0 ∷ 0 ∷ 0 ∷ [])

abbrev pub happening_of : Found → Happening
happening_of (never states tries) = happening.Never states tries
happening_of (happens w tries) = happening.Can (length w.list) tries
happening_of (undecided tries) = happening.Undecided tries

abbrev pub searched : SearchEntry → Circuit
searched e = watched e.watch (given_circuit e.circuit)

abbrev pub found : SearchEntry → Found
found e = can_happen e.split (searched e) e.allowance

abbrev pub lent_to_search : SearchEntry → List Lent
lent_to_search e =
    let states = 2 ^ e.circuit.counts.L in
    record { table = 10; needed = 3 * states; words = length e.met }
    ∷ record { table = 11; needed = (states + 31) / 32; words = length e.marks } ∷ []

-- after 15: 25, more than 20 latches, and 26, more than 20 inputs, the places their numbers; 4 of tables 10 and 11; 17 at 1, no such
-- output; 11, the start and the list have no room
abbrev pub search_stages : SearchEntry → List (Option Refusal)
search_stages e =
    let n = e.circuit.counts in
    stage ManyLatches (failing_at n.L (leb n.L 20))
    ∷ stage ManyInputs (failing_at n.I (leb n.I 20))
    ∷ stage ShortTable (least_short (lent_to_search e))
    ∷ stage NotExplained (failing_at 1 (leb e.watch n.O))
    ∷ room_stage e.out (way_bytes (searched e) (found e))
    ∷ []

abbrev pub searched_by : Option Refusal → SearchEntry → SearchExit
searched_by None e = record {
  answer = Ok (happening_of (found e));
  scratch = cleared e.circuit.scratch;
  met = cleared e.met;
  marks = cleared e.marks;
  out = put e.out 0 (way_bytes (searched e) (found e));
}
searched_by (Some r) e = record {
  answer = Err r;
  scratch = cleared e.circuit.scratch;
  met = cleared e.met;
  marks = cleared e.marks;
  out = e.out;
}

abbrev pub search : SearchEntry → SearchExit
search e = searched_by (first_of (in_order_then e.circuit (search_stages e))) e
