-- The marks in a table: after n words and two for each of a gates come a bit for each gate, a bit for each word of those that is not 0, a
-- bit for each word of these, and so once more.
use Rattle.std.specs.Prelude.{ℕ, ◌+◌, ◌*◌, ◌/◌, ◌%◌, ◌<◌, ◌≤◌, ◌≡◌, true, false, not, cond, List, eqb, ltb, get_or}
use Rattle.tables.specs.bitmap.Bitmap.{is_on, raised}

-- where the marks start of gates, of words of those that are not 0, of words of these, and of words of these
abbrev pub p0 : ℕ → ℕ → ℕ
p0 n a = n + 2 * a

abbrev pub p1 : ℕ → ℕ → ℕ
p1 n a = n + 2 * a + (a / 32 + 1)

abbrev pub p2 : ℕ → ℕ → ℕ
p2 n a = n + 2 * a + (a / 32 + 1) + (a / 1024 + 1)

abbrev pub p3 : ℕ → ℕ → ℕ
p3 n a = n + 2 * a + (a / 32 + 1) + (a / 1024 + 1) + (a / 32768 + 1)

-- of the words at p, up to the one numbered m, those that are not 0 are on at q, and nothing else there
pub record Level (t : List ℕ) (p q m : ℕ) : Type 0 where
  pub same : (w : ℕ) → w ≤ m → is_on t q w ≡ ltb 0 (get_or t (p + w) 0)
  pub past : (w : ℕ) → m < w → w / 32 ≤ m / 32 → is_on t q w ≡ false

pub record Levels (t : List ℕ) (n a : ℕ) : Type 0 where
  pub one : Level t (p0 n a) (p1 n a) (a / 32)
  pub two : Level t (p1 n a) (p2 n a) (a / 1024)
  pub three : Level t (p2 n a) (p3 n a) (a / 32768)

-- the two tables agree below b
abbrev pub Agree : ℕ → List ℕ → List ℕ → Type 0
Agree b t u = (p : ℕ) → p < b → get_or u p 0 ≡ get_or t p 0

-- what `mark` does: gate i is marked, and so are the words above it
unfoldable pub marked : List ℕ → ℕ → ℕ → ℕ → List ℕ
marked t n a i = raised (raised (raised (raised t (p0 n a) i) (p1 n a) (i / 32)) (p2 n a) (i / 1024)) (p3 n a) (i / 32768)

-- what `lower` does: place i is turned over if e is 1; r is 1 if that leaves its word 0
pub record Lowered (t u : List ℕ) (p i e r : ℕ) : Type 0 where
  pub off : (k : ℕ) → (k ≡ p + i / 32 → ⊥) → get_or u k 0 ≡ get_or t k 0
  pub others : (c : ℕ) → (c ≡ i → ⊥) → is_on u p c ≡ is_on t p c
  pub still : e ≡ 0 → (get_or u (p + i / 32) 0 ≡ get_or t (p + i / 32) 0) × (r ≡ 0)
  pub turned : e ≡ 1 → (is_on u p i ≡ not (is_on t p i)) × (r ≡ cond (eqb (get_or u (p + i / 32) 0) 0) 1 0)

-- what `unmark` does
pub record TakenOff (t u : List ℕ) (n a j : ℕ) : Type 0 where
  pub low : Agree (p0 n a) t u
  pub others : (c : ℕ) → (c ≡ j → ⊥) → c / 32 ≤ a / 32 → is_on u (p0 n a) c ≡ is_on t (p0 n a) c
  pub gone : is_on u (p0 n a) j ≡ false
  pub levels : Levels u n a

-- a marked gate of the pair that starts at r
pub record InPair (t : List ℕ) (n a r : ℕ) : Type 0 where
  pub gate : ℕ
  pub even : r % 2 ≡ 0
  pub low : r ≤ gate
  pub high : gate ≤ r + 1
  pub within : gate < a
  pub on : is_on t (p0 n a) gate ≡ true

-- what `first_pair` finds: no gate before it is marked, and one of it is, where any is
pub record FirstPair (t : List ℕ) (n a r : ℕ) : Type 0 where
  pub within : r ≤ a
  pub dark : (c : ℕ) → c < r → c < a → is_on t (p0 n a) c ≡ false
  pub there : r < a → InPair t n a r
