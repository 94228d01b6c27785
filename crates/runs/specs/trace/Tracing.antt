-- Lines of a run: what each function that writes them asks and leaves.
use Rattle.std.specs.Prelude.{ℕ, zero, suc, ◌+◌, ◌*◌, ◌≤◌, min, ◌≡◌, Bool, true, false, cond, List, [], ◌∷◌, ◌++◌, map, eqb, length, take, drop, Result, Ok, Err}
use Rattle.plan.specs.declared.Refusal.{Refusal}
use Rattle.plan.specs.declared.Counts.{Counts}
use Rattle.plan.specs.declared.Refusal.TheVariants.{BadVector}
use Rattle.plan.specs.Circuit.{Circuit, Tables}
use Rattle.plan.specs.Step.{Value, code_of, value_of, next_of, step_of, run}
use Rattle.plan.specs.Outcome.{put}
use Rattle.plan.specs.Programs.{lines_in, all_vectors, step_line, step_lines}
use Rattle.plan.specs.Whole.{line_width, state_after}
use Rattle.tables.specs.Held.{Scratch}
use Rattle.step.specs.values.Words.{values_at}
use Rattle.step.specs.sweep.Running.{these, Runs, Rests}

-- the codes of words, and the byte that ends a part of a line
abbrev pub part : List ℕ → ℕ → ℕ → ℕ → List ℕ
part t first count last = map code_of (values_at t first count) ++ (last ∷ [])

-- tables that hold an accepted circuit in binary order, and scratch that holds a state between two steps
pub record Resting (n : Counts) (latches outputs gates scratch : List ℕ) : Type 0 where
  pub others : Tables
  pub state : List Value
  pub runs : Runs n (these others latches outputs gates)
  pub scratch-long : Scratch n scratch
  pub state-length : length state ≡ n.L
  pub rests : Rests n state scratch

-- a line more, and the next state
pub record Wrote (n : Counts) (c : Circuit) (s i : List Value) (t' out : List ℕ) (at : ℕ) (out' : List ℕ) : Type 0 where
  pub rests : Rests n (next_of c s i) t'
  pub line : out' ≡ put out at (step_line (step_of c s i))

-- `number` lines of whole vectors, and room for as many lines of steps
pub record Listed (n : Counts) (number : ℕ) (vectors out : List ℕ) : Type 0 where
  pub good : all_vectors n.I (lines_in vectors) ≡ true
  pub enough : number ≤ length (lines_in vectors)
  pub room : line_width n * number ≤ length out

-- the first vectors of lines
abbrev pub first_ones : ℕ → List ℕ → List (List Value)
first_ones number vectors = map (map value_of) (take number (lines_in vectors))

-- the lines of their steps from a state on, and the state after them
pub record Ran (n : Counts) (c : Circuit) (s : List Value) (list : List (List Value))
    (t' out out' : List ℕ) : Type 0 where
  pub rests : Rests n (state_after c s list) t'
  pub lines : out' ≡ put out 0 (step_lines (run c s list))

-- the same, from and into bytes of a state
pub record Left (c : Circuit) (state : List ℕ) (list : List (List Value)) (state' out out' : List ℕ) : Type 0 where
  pub state-is : state' ≡ map code_of (state_after c (map value_of state) list)
  pub lines : out' ≡ put out 0 (step_lines (run c (map value_of state) list))

-- 12: place 1 the state, 2 the vectors; else the lines
abbrev pub judged : Bool → Bool → ℕ → Result ℕ Refusal
judged true true number = Ok number
judged true false number = Err (BadVector 2)
judged false vectors number = Err (BadVector 1)

-- the bytes of the first k lines, or all
abbrev pub bytes_of_lines : ℕ → List ℕ → ℕ
bytes_of_lines k [] = zero
bytes_of_lines zero (b ∷ l) = zero
bytes_of_lines (suc k) (b ∷ l) = suc (bytes_of_lines (cond (eqb b 10) k (suc k)) l)

-- the position past k lines, from a position within the bytes
abbrev pub past_lines : List ℕ → ℕ → ℕ → ℕ
past_lines bytes from k = let at = min from (length bytes) in at + bytes_of_lines k (drop at bytes)
