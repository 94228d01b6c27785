-- Whether an input could be read, and how many bytes of it came: none are told of one that could not. What is printed.
use Rattle.std.specs.Prelude.{ℕ, Bool, true, false, cond, leb, List, [], length, take, ⊤, Option, None, Some, Result, Ok, Err}
use Rattle.plan.specs.declared.Refusal.{Refusal}
use Rattle.plan.specs.Programs.{refusal_line}

abbrev pub could_be_read : Option ℕ → Bool
could_be_read (Some n) = true
could_be_read None = false

abbrev pub came : Option ℕ → ℕ
came (Some n) = n
came None = 0

-- what holds of that number, if the input could be read
abbrev pub IfRead : Option ℕ → (ℕ → Type 0) → Type 0
IfRead (Some n) P = P n
IfRead None P = ⊤

-- the line of a refusal. The buffer that it is made in has room for each: a place is below 2 ^ 64, of at most 20 digits
abbrev pub line_shown : Refusal → List ℕ
line_shown r = cond (leb (length (refusal_line r)) 64) (refusal_line r) []

-- what is printed: the bytes that were written into a buffer, or the line of the refusal
abbrev pub shown : Result ℕ Refusal → List ℕ → List ℕ
shown (Ok n) out = take n out
shown (Err r) out = line_shown r
