-- One pass over lines of vectors: `column` codes of the line stand before the bytes, and `number` lines before it.
use Rattle.std.specs.Prelude.{ℕ, ◌+◌, Bool, cond, ◌||◌, List, [], ◌∷◌, eqb, length, Result, Ok, Err}
use Rattle.plan.specs.declared.Refusal.{Refusal}
use Rattle.plan.specs.declared.Refusal.TheVariants.{BadVector}
use Rattle.plan.specs.Tail.{ends_line}
use Rattle.plan.specs.Step.{is_code}

-- the last line has its end
abbrev pub ended : List ℕ → Bool
ended bytes = eqb (length bytes) 0 || ends_line bytes

-- past the width a new line, else a code
abbrev pub scan : ℕ → ℕ → ℕ → List ℕ → Result ℕ Refusal
scan width column number [] = Ok number
scan width column number (b ∷ l) =
    cond (eqb column width)
    (cond (eqb b 10) (scan width 0 (number + 1) l) (Err (BadVector 2)))
    (cond (is_code b) (scan width (column + 1) number l) (Err (BadVector 2)))
