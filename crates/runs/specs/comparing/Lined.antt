-- The lines of a run by the plain engine: how they are judged, the vectors that a line asks for, and what it leaves.
use Rattle.std.specs.Prelude.{ℕ, ◌≡◌, true, cond, ◌&&◌, List, map, eqb, leb, length, Result, Err}
use Rattle.plan.specs.declared.Refusal.{Refusal}
use Rattle.plan.specs.declared.Counts.{Counts}
use Rattle.plan.specs.declared.Refusal.TheVariants.{ManyGates}
use Rattle.plan.specs.Circuit.{Circuit}
use Rattle.plan.specs.Step.{code_of, value_of, next_of, step_of}
use Rattle.plan.specs.Outcome.{all_codes, put}
use Rattle.plan.specs.Programs.{step_line, lines_in, all_vectors}
use Rattle.runs.specs.stimulus.Scan.{ended}
use Rattle.runs.specs.trace.Tracing.{judged}

-- a vector of n codes
pub record Vector (n : ℕ) (l : List ℕ) : Type 0 where
  pub long : length l ≡ n
  pub codes : all_codes l ≡ true

-- the next state over the state, and the step's line in the buffer
pub record Lined (c : Circuit) (state ins state' out : List ℕ) (at : ℕ) (out' : List ℕ) : Type 0 where
  pub next : state' ≡ map code_of (next_of c (map value_of state) (map value_of ins))
  pub line : out' ≡ put out at (step_line (step_of c (map value_of state) (map value_of ins)))

-- the lines of vectors, by 24 and then 12: place 1 the state, 2 the vectors
abbrev pub plain_judged : Counts → List ℕ → List ℕ → Result ℕ Refusal
plain_judged n state vectors =
    cond (leb n.A 24) (judged (eqb (length state) n.L && all_codes state)
    (ended vectors && all_vectors n.I (lines_in vectors)) (length (lines_in vectors))) (Err (ManyGates n.A))
