-- Digital search trees: each gate has a path of symbols, and stands where its path first leaves the gates before it.
use Rattle.std.specs.Prelude.{◌≡◌, Bool, true, ◌&&◌, cond, ℕ, zero, suc, ◌+◌, ◌-◌, ◌*◌, ◌<◌, ◌≤◌, eqb, leb}

-- the first d symbols of two paths are equal
abbrev pub agree : ℕ → (ℕ → ℕ) → (ℕ → ℕ) → Bool
agree zero p q = true
agree (suc d) p q = agree d p q && eqb (p d) (q d)

-- how far the first k gates lead along path q; S i is the path of gate i
abbrev pub depth : (ℕ → ℕ → ℕ) → (ℕ → ℕ) → ℕ → ℕ
depth S q zero = 1
depth S q (suc k) = cond (agree (depth S q k) q (S k)) (suc (depth S q k)) (depth S q k)

-- gate i stands on path q
abbrev pub on : (ℕ → ℕ → ℕ) → (ℕ → ℕ) → ℕ → Bool
on S q i = agree (depth S q i) q (S i)

abbrev pub or_first : ℕ → ℕ → ℕ
or_first zero y = y
or_first (suc x) y = suc x

-- the first gate from k on, of the first n, that stands on path q, counted from 1; or 0
abbrev pub first_on : (ℕ → ℕ → ℕ) → (ℕ → ℕ) → ℕ → ℕ → ℕ
first_on S q k zero = 0
first_on S q k (suc n) = or_first (first_on S q k n) (cond (leb k n && on S q n) (suc n) 0)

-- the roots are node 0, gate i is node i + 1
abbrev pub node : (ℕ → ℕ → ℕ) → (ℕ → ℕ) → ℕ → Bool
node S q zero = true
node S q (suc i) = on S q i

-- the symbol that leads on from node k
abbrev pub symbol : (ℕ → ℕ → ℕ) → (ℕ → ℕ) → ℕ → ℕ
symbol S q k = q (depth S q k - 1)

-- the places at which gates hang, numbered: after w words of another use come 2 × w roots, then one link of each
-- gate; the other links are numbered from 4 × w on
abbrev pub slot_of : ℕ → ℕ → ℕ → ℕ
slot_of w zero c = w + c
slot_of w (suc i) zero = 4 * w + i
slot_of w (suc i) (suc c) = 3 * w + i

pub record Good (w : ℕ) (q : ℕ → ℕ) : Type 0 where
  pub root : q 0 < 2 * w
  pub bits : (d : ℕ) → q (suc d) < 2

-- each node's word leads to the first gate after it on the path
abbrev pub Grown : (ℕ → ℕ → ℕ) → ℕ → ℕ → (ℕ → ℕ) → Type 0
Grown S w n word =
    (q : ℕ → ℕ) → Good w q → (k : ℕ) → k ≤ n → node S q k ≡ true → word (slot_of w k (symbol S q k)) ≡ first_on S q k n
