-- A table with a word for each literal and, past these, a mark for each variable.
use Rattle.std.specs.Prelude.{ℕ, ◌+◌, ◌*◌, ◌<◌, ◌≤◌, ◌≡◌, Bool, cond, List, eqb, length, get_or}
use Rattle.plan.specs.declared.Lit.{Lit}
use Rattle.plan.specs.Literals.{word_of}
use Rattle.plan.specs.Circuit.{has}
use Rattle.plan.specs.Step.{Value, v0, v1, lit}
use Rattle.step.specs.values.Words.{may1, word}

-- the literals' words stand from `lits` on, the marks of n variables from m on
pub record Space (lits m n : ℕ) (t : List ℕ) : Type 0 where
  pub apart : lits + 2 * n ≤ m
  pub long : m + n ≤ length t

-- of two literals the first if it can't be 1, by its word
abbrev pub side_at : ℕ → List ℕ → Lit → Lit → Lit
side_at lits t a b = cond (eqb (get_or t (lits + word_of a) 0) 0) a b

-- a mark is the value 1
abbrev pub flag : Bool → Value
flag b = cond b v1 v0

-- the literals' words are those of w, and the variables of a list are marked
pub record Known (w : ℕ → Value) (lits m n : ℕ) (seen t : List ℕ) : Type 0 where
  pub values : (l : ℕ) → l < 2 * n → get_or t (lits + l) 0 ≡ may1 (lit w l)
  pub marks : (v : ℕ) → v < n → get_or t (m + v) 0 ≡ word (flag (has v seen))
