-- Lines of numbers, word by word: how many words follow in the line, and the bytes of a word. The bytes of a gate.
use Rattle.std.specs.Prelude.{ℕ, suc, zero, ◌+◌, ◌-◌, ◌*◌, ◌≤◌, ◌≡◌, List, [], ◌∷◌, ◌++◌, length, get_or}
use Rattle.plan.specs.Bytes.{digits, end_of}
use Rattle.plan.specs.Difference.{groups_of}
use Rattle.plan.specs.Outcome.{put}

-- after a word that j words of its line follow, so many follow the next one; `last` follow the first of a line
abbrev pub following : ℕ → ℕ → ℕ
following last zero = last
following last (suc j) = j

-- a number and what stands after it, where j more follow in its line
abbrev pub word_bytes : ℕ → ℕ → List ℕ
word_bytes j w = digits w ++ (end_of j ∷ [])

-- m words of a table from i on, where j more follow the first in its line
abbrev pub words_from : List ℕ → ℕ → ℕ → ℕ → ℕ → List ℕ
words_from t last zero j i = []
words_from t last (suc m) j i = word_bytes j (get_or t i 0) ++ words_from t last m (following last j) (i + 1)

-- the two differences of a gate
abbrev pub sides_bytes : ℕ → ℕ → ℕ → List ℕ
sides_bytes lhs rhs0 rhs1 = groups_of (lhs - rhs0) ++ groups_of (rhs0 - rhs1)

-- the bytes of gate i of a table, and of m gates from i on
abbrev pub bytes_at : List ℕ → ℕ → List ℕ
bytes_at t i = sides_bytes (get_or t (3 * i) 0) (get_or t (3 * i + 1) 0) (get_or t (3 * i + 2) 0)

abbrev pub bytes_from : List ℕ → ℕ → ℕ → List ℕ
bytes_from t zero i = []
bytes_from t (suc m) i = bytes_at t i ++ bytes_from t m (i + 1)

-- bytes x stand from a position on once whatever follows them has been put, two bytes at least: until then these
-- may be any
abbrev pub Begun : List ℕ → ℕ → List ℕ → List ℕ → ℕ → Type 0
Begun out at x out' next =
    (y : List ℕ) → 2 ≤ length y → at + length x + length y ≤ length out → put out' next y ≡ put out at (x ++ y)
