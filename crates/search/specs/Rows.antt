-- What is true of the states met after p tries, and the rows and marks that hold them.
use Rattle.std.specs.Prelude.{ℕ, zero, suc, ◌+◌, ◌*◌, ◌/◌, ◌≤◌, ◌<◌, ◌≡◌, true, false, List, map, length, get_or, set}
use Rattle.plan.specs.Circuit.{has}
use Rattle.plan.specs.Search.{System, Leads, Way, begin, state_of, onward}
use Rattle.laws.proofs.Reading.Members.{distinct}
use Rattle.tables.specs.bitmap.Bitmap.{is_on}

-- the way at a place
abbrev pub at : List Way → ℕ → Way
at met i = get_or met i (begin 0)

abbrev pub depth : List Way → ℕ → ℕ
depth met i = length (at met i).list

-- a state is met at some place, by at most d moves
pub record Sits (met : List Way) (s d : ℕ) : Type 0 where
  pub place : ℕ
  pub within : place < length met
  pub is-it : (at met place).state ≡ s
  pub near : depth met place ≤ d

-- a way is one: from a start, by moves that lead there
pub record Sound (y : System) (w : Way) : Type 0 where
  pub from : has w.start y.starts ≡ true
  pub leads : Leads y w.start w.list w.state

-- what holds after p tries
pub record Met (y : System) (p : ℕ) (met : List Way) : Type 0 where
  pub sound : (i : ℕ) → i < length met → Sound y (at met i)
  pub begun : (s : ℕ) → has s y.starts ≡ true → Sits met s 0
  pub unseen : (i m : ℕ) → i < length met → m < y.moves → i * y.moves + m < p → y.allows (at met i).state m ≡ true
      → y.shows (at met i).state m ≡ false
  pub onwards : (i m : ℕ) → i < length met → m < y.moves → i * y.moves + m < p → y.allows (at met i).state m ≡ true
      → Sits met (y.next (at met i).state m) (suc (depth met i))
  pub rising : (i j : ℕ) → i ≤ j → j < length met → depth met i ≤ depth met j
  pub level : p / y.moves < length met → (j : ℕ) → j < length met → depth met j ≤ suc (depth met (p / y.moves))
  pub different : distinct (map state_of met) ≡ true
  pub within : p ≤ length met * y.moves

-- a row: the state; 0 for a start, or 1 more than the place that it was met from; the move
abbrev pub From : System → List Way → ℕ → ℕ → ℕ → Type 0
From y met i zero m = at met i ≡ begin (at met i).state
From y met i (suc p) m = (p < i) × (at met i ≡ onward y (at met p) m)

pub record Rows (y : System) (met : List Way) (table : List ℕ) : Type 0 where
  pub state : (i : ℕ) → i < length met → get_or table (3 * i) 0 ≡ (at met i).state
  pub from : (i : ℕ) → i < length met → From y met i (get_or table (3 * i + 1) 0) (get_or table (3 * i + 2) 0)

-- a mark for each state that is met
abbrev pub Marked : ℕ → List Way → List ℕ → Type 0
Marked n met marks = (s : ℕ) → s < n → is_on marks 0 s ≡ has s (map state_of met)

-- the three stores of a new state
abbrev pub new_row : List ℕ → ℕ → ℕ → ℕ → ℕ → List ℕ
new_row table r s f m = set (set (set table (3 * r) s) (3 * r + 1) f) (3 * r + 2) m
