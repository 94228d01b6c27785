-- The least used variable that has no mark.
use Rattle.std.specs.Prelude.{ℕ, ◌+◌, ◌*◌, min, cond, ◌||◌, List, [], ◌∷◌, eqb, get_or}
use Rattle.plan.specs.Literals.{var_of}
use Rattle.laws.proofs.Tables.{firsts}
use Rattle.tables.specs.bitmap.Bitmap.{is_on}

-- n words of a table, from `start` on by `stride`
abbrev pub every : List ℕ → ℕ → ℕ → ℕ → List ℕ
every table start stride n = firsts (λ i. get_or table (stride * i + start) 0) n

-- the first n words of a table
abbrev pub words : List ℕ → ℕ → List ℕ
words table n = every table 0 1 n

-- the least so far, or the variable of a used literal below it that has no mark; variable 0, of the constants,
-- needs none
unfoldable pub lower : List ℕ → ℕ → ℕ → ℕ
lower marks k l = cond (eqb 0 (var_of l) || is_on marks 0 (var_of l)) k (min (var_of l) k)

-- the same over literals
abbrev pub lowest : List ℕ → ℕ → List ℕ → ℕ
lowest marks k [] = k
lowest marks k (l ∷ ls) = lowest marks (lower marks k l) ls
