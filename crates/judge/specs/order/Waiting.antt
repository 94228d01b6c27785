-- The table that `number` works in: a word for each of n variables, for each of a gates where its chain starts, for
-- each gate which one comes after it in its chain, then the marks of the gates. A variable's word below 2 ^ 31 is
-- its number; from there on it names the gate that defines it, which has no number yet.
use Rattle.std.specs.Prelude.{ℕ, zero, suc, ◌+◌, ◌-◌, ◌*◌, ◌/◌, ◌<◌, ◌≤◌, ◌≡◌, Bool, true, false, not, cond, ◌&&◌, ◌||◌, List, [], ◌∷◌, ◌++◌, map, eqb, ltb, length, get_or, set, take}
use Rattle.plan.specs.Literals.{var_of}
use Rattle.plan.specs.Circuit.{Gate, gate_of, rows_of, left_vars, rights, has}
use Rattle.laws.proofs.Reading.Members.{distinct}
use Rattle.laws.proofs.Running.Found.{AllG}
use Rattle.laws.proofs.Running.Lists.{all_in}
use Rattle.laws.proofs.Tables.{gate_at}
use Rattle.tables.specs.bitmap.Bitmap.{is_on}
use Rattle.judge.specs.marks.Levels.{p0, Levels, Agree, marked}
use Rattle.judge.specs.order.Numbers.{NumTable, InTable, InRange}

-- the number in a word
unfoldable pub shown : ℕ → ℕ
shown w = cond (ltb w 2147483648) w 0

-- the numbers of n variables
abbrev pub clean : ℕ → List ℕ → List ℕ
clean zero t = []
clean (suc n) [] = []
clean (suc n) (w ∷ t) = shown w ∷ clean n t

unfoldable pub numbered_v : List ℕ → ℕ → Bool
numbered_v t v = eqb v 0 || not (eqb (shown (get_or t v 0)) 0)

-- the gate's left side has no number and its right sides have
unfoldable pub ready_v : List ℕ → Gate → Bool
ready_v t g = not (numbered_v t (var_of g.lhs)) && (numbered_v t (var_of g.rhs0) && numbered_v t (var_of g.rhs1))

abbrev pub ready_at : List ℕ → List ℕ → ℕ → Bool
ready_at gates t i = ready_v t (gate_at gates i)

-- the variables of gate i
abbrev pub lhs_of : List ℕ → ℕ → ℕ
lhs_of gates i = var_of (get_or gates (3 * i) 0)

abbrev pub rhs0_of : List ℕ → ℕ → ℕ
rhs0_of gates i = var_of (get_or gates (3 * i + 1) 0)

abbrev pub rhs1_of : List ℕ → ℕ → ℕ
rhs1_of gates i = var_of (get_or gates (3 * i + 2) 0)

-- how many of the first k gates have a number
abbrev pub counted : List ℕ → List ℕ → ℕ → ℕ
counted gates t zero = 0
counted gates t (suc k) = counted gates t k + cond (numbered_v t (lhs_of gates k)) 1 0

-- the word that gate i waits for: its first right side's if that names a gate, else its second one's
unfoldable pub watched : List ℕ → List ℕ → ℕ → ℕ
watched gates t i =
    cond (ltb (get_or t (rhs0_of gates i) 0) 2147483648) (get_or t (rhs1_of gates i) 0) (get_or t (rhs0_of gates i) 0)

-- the words of the left variables of k gates name them
abbrev pub with_names : List ℕ → ℕ → List ℕ → List ℕ
with_names gates zero t = t
with_names gates (suc k) t = set (with_names gates k t) (lhs_of gates k) (2147483648 + k)

-- a left variable without a number names its gate; no other word names one; a right variable that names none has a
-- number
pub record Named (gates t : List ℕ) (n a : ℕ) : Type 0 where
  pub own : (i : ℕ) → i < a → numbered_v t (lhs_of gates i) ≡ false → get_or t (lhs_of gates i) 0 ≡ 2147483648 + i
  pub names : (v : ℕ) → v < n → 2147483648 ≤ get_or t v 0 → (get_or t v 0 < 2147483648 + a) × (numbered_v t v ≡ false)
  pub low0 : (i : ℕ) → i < a → get_or t (rhs0_of gates i) 0 < 2147483648 → numbered_v t (rhs0_of gates i) ≡ true
  pub low1 : (i : ℕ) → i < a → get_or t (rhs1_of gates i) 0 < 2147483648 → numbered_v t (rhs1_of gates i) ≡ true

-- the chain that starts at h is l: a place in it is 1 more than the gate, 0 its end; what comes after gate i stands
-- in word b + i
abbrev pub Chain : List ℕ → ℕ → ℕ → List ℕ → Type 0
Chain t b h [] = h ≡ 0
Chain t b h (i ∷ l) = (h ≡ i + 1) × Chain t b (get_or t (b + i) 0) l

-- gate g's chain: of the gates that are done those that wait for g
pub record Line (gates t : List ℕ) (n a : ℕ) (done : ℕ → Bool) (g : ℕ) : Type 0 where
  pub l : List ℕ
  pub chain : Chain t (n + a) (get_or t (n + g) 0) l
  pub once : distinct l ≡ true
  pub its : (i : ℕ) → has i l ≡ true
      → (i < a) × (done i ≡ true) × (watched gates t i ≡ 2147483648 + g) × (numbered_v t (lhs_of gates i) ≡ false)
  pub all : (i : ℕ) → i < a → done i ≡ true → watched gates t i ≡ 2147483648 + g → has i l ≡ true

abbrev pub Lines : List ℕ → List ℕ → ℕ → ℕ → (ℕ → Bool) → Type 0
Lines gates t n a done = (g : ℕ) → g < a → numbered_v t (lhs_of gates g) ≡ false → Line gates t n a done g

-- the words of the whole table: the last is one word, and none where there is no gate
abbrev pub words_for : ℕ → ℕ → ℕ
words_for n a = n + 2 * a + (a / 32 + 1) + (a / 1024 + 1) + (a / 32768 + 1) + (a + 1048575) / 1048576

-- of the gates that are done those that are ready are marked, and nothing else is
pub record Marks (gates t : List ℕ) (n a : ℕ) (done : ℕ → Bool) : Type 0 where
  pub here : (i : ℕ) → i < a → is_on t (p0 n a) i ≡ (done i && ready_at gates t i)
  pub past : (i : ℕ) → a ≤ i → i / 32 ≤ a / 32 → is_on t (p0 n a) i ≡ false
  pub levels : Levels t n a

-- each gate that is done is marked if it is ready, and else in the chain of a gate that it waits for
pub record Waiting (gates t : List ℕ) (n a : ℕ) (done : ℕ → Bool) : Type 0 where
  pub named : Named gates t n a
  pub lines : Lines gates t n a done
  pub marks : Marks gates t n a done

abbrev pub before : ℕ → ℕ → Bool
before k i = ltb i k

abbrev pub every : ℕ → Bool
every i = true

-- the gates and the table are long enough, and the gates' variables are below n: of the list of gates, and by their
-- places
pub record Room (gates t : List ℕ) (n a : ℕ) : Type 0 where
  pub gates-long : 3 * a ≤ length gates
  pub table-long : words_for n a ≤ length t
  pub small : a < 1048576
  pub inside : AllG (InTable n) (map gate_of (rows_of 3 a gates))

pub record Space (gates t : List ℕ) (n a : ℕ) : Type 0 where
  pub gates-long : 3 * a ≤ length gates
  pub table-long : words_for n a ≤ length t
  pub small : a < 1048576
  pub inside : InRange n gates a

-- t numbers the variables of a list; the gates define others, each once, and use only what is in the list or defined
pub record Known (gates t : List ℕ) (n a : ℕ) : Type 0 where
  pub lv : List ℕ
  pub numbers : NumTable lv (take n t)
  pub starts : get_or lv 0 1 ≡ 0
  pub once : distinct (lv ++ left_vars (map gate_of (rows_of 3 a gates))) ≡ true
  pub used : all_in (rights (map gate_of (rows_of 3 a gates))) (lv ++ left_vars (map gate_of (rows_of 3 a gates))) ≡ true

-- no word of the n variables names a gate; nothing waits and nothing is marked
abbrev pub Fresh : List ℕ → ℕ → Type 0
Fresh t n = (v : ℕ) → v < n → get_or t v 0 < 2147483648

abbrev pub Blank : List ℕ → ℕ → Type 0
Blank t n = (p : ℕ) → n ≤ p → get_or t p 0 ≡ 0

-- what `hang` does: gate i is marked, or it is the first in the chain of gate g
unfoldable pub linked : List ℕ → ℕ → ℕ → ℕ → ℕ → List ℕ
linked t n a i g = set (set t (n + a + i) (get_or t (n + g) 0)) (n + g) (i + 1)

unfoldable pub hung : List ℕ → List ℕ → ℕ → ℕ → ℕ → List ℕ
hung gates t n a i =
    cond (ltb (watched gates t i) 2147483648) (marked t n a i) (linked t n a i (watched gates t i - 2147483648))

-- what `wake` asks: the gates of the chain that starts at h are the only ones that are not done, and have no number
pub record Waking (gates t : List ℕ) (n a h : ℕ) : Type 0 where
  pub todo : List ℕ
  pub chain : Chain t (n + a) h todo
  pub once : distinct todo ≡ true
  pub each : (i : ℕ) → has i todo ≡ true → (i < a) × (numbered_v t (lhs_of gates i) ≡ false)
  pub rest : Waiting gates t n a (λ i. not (has i todo))

-- what `give` asks and does: gate j is ready, and gets number x
pub record Giving (gates t : List ℕ) (n a j x : ℕ) : Type 0 where
  pub space : Space gates t n a
  pub within : j < a
  pub pos : 0 < x
  pub small : x < 2147483648
  pub is-ready : ready_at gates t j ≡ true
  pub waiting : Waiting gates t n a every

pub record Given (gates t u : List ℕ) (n a j x : ℕ) : Type 0 where
  pub low : Agree n (set t (lhs_of gates j) x) u
  pub waiting : Waiting gates u n a every

-- what `first_out` finds: the first gate without a number, or a
pub record FirstAt (gates t : List ℕ) (a r : ℕ) : Type 0 where
  pub within : r ≤ a
  pub before : (i : ℕ) → i < r → numbered_v t (var_of (gate_at gates i).lhs) ≡ true
  pub there : r < a → numbered_v t (var_of (gate_at gates r).lhs) ≡ false
