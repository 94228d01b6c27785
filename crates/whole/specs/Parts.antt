-- The parts of a whole file's answer.
use Rattle.std.specs.Prelude.{ℕ, Bool, false, List, length, Result, Ok, Err}
use Rattle.plan.specs.declared.Refusal.{Refusal}
use Rattle.plan.specs.declared.Counts.{Counts}
use Rattle.plan.specs.Refusals.{Parse, got, refused}
use Rattle.plan.specs.Outcome.{WriteExit, put}

-- what the bytes to write, or a refusal, leave in the buffer
abbrev pub told_by : List ℕ → Parse (List ℕ) → WriteExit
told_by out (got bytes n) = record { answer = Ok (length bytes); out = put out 0 bytes }
told_by out (refused r) = record { answer = Err r; out = out }

-- whether an accepted header is binary
abbrev pub binary_by : Result (Bool × Counts × ℕ) Refusal → Bool
binary_by (Ok (binary, n, at)) = binary
binary_by (Err r) = false
