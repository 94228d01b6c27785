-- The needle report: for each output and each latch, over a list of vectors, the steps at 0, at 1, at x, and the
-- steps whose value differs from the step before.
use Rattle.std.specs.Prelude.{ℕ, zero, suc, ◌+◌, ◌*◌, cond, List, [], ◌∷◌, ◌++◌, map, leb, length, get_or, Result, Ok, Err, Option, Some, None}
use Rattle.plan.specs.declared.Refusal.{Refusal}
use Rattle.plan.specs.declared.Refusal.TheVariants.{LongInput}
use Rattle.plan.specs.Refusals.{stage, first_of}
use Rattle.plan.specs.Circuit.{Circuit, filled, cleared}
use Rattle.plan.specs.Given.{Given, given_circuit, failing_at}
use Rattle.plan.specs.Step.{Value, v0, v1, vx, same, Step, run, first_state, vectors_of}
use Rattle.plan.specs.Outcome.{list_stage}
use Rattle.plan.specs.Sixth.{sixth_stages}

-- how many of a needle's values are a
abbrev pub times : Value → List Value → ℕ
times a [] = 0
times a (b ∷ l) = cond (same b a) 1 0 + times a l

-- how many differ from the one before, where a came before them; the first step counts no change
abbrev pub changes_after : Value → List Value → ℕ
changes_after a [] = 0
changes_after a (b ∷ l) = cond (same a b) 0 1 + changes_after b l

abbrev pub changes : List Value → ℕ
changes [] = 0
changes (a ∷ l) = changes_after a l

-- how many are 0, 1 and x; and the four numbers of a needle, by its values step by step
abbrev pub times_of : List Value → List ℕ
times_of l = times v0 l ∷ times v1 l ∷ times vx l ∷ []

abbrev pub numbers_of : List Value → List ℕ
numbers_of l = times_of l ++ (changes l ∷ [])

-- the values of output i, and of latch i by the state at the start of each step
abbrev pub output_along : List Step → ℕ → List Value
output_along steps i = map (λ s. get_or s.outputs i vx) steps

abbrev pub latch_along : List Step → ℕ → List Value
latch_along steps i = map (λ s. get_or s.state i vx) steps

-- what is told of 0, 1 .. below n, one after the other
abbrev pub in_turn : (ℕ → List ℕ) → ℕ → List ℕ
in_turn tell zero = []
in_turn tell (suc n) = in_turn tell n ++ tell n

-- the outputs', then the latches' numbers
abbrev pub needles : Circuit → List Step → List ℕ
needles c steps =
    in_turn (λ i. numbers_of (output_along steps i)) (length c.outputs)
    ++ in_turn (λ i. numbers_of (latch_along steps i)) (length c.latches)

abbrev pub report_of : Circuit → ℕ → List ℕ → List ℕ
report_of c number bytes = needles c (run c (first_state c) (vectors_of c number bytes))

-- the call: given tables, a number of vectors and their bytes, and table 6, lent for writing
pub record ReportEntry : Type 0 where
  pub circuit : Given
  pub number : ℕ
  pub bytes : List ℕ
  pub six : List ℕ

pub record ReportExit : Type 0 where
  pub answer : Result Unit Refusal
  pub scratch : List ℕ
  pub six : List ℕ

-- 13: more than 65,536 steps
abbrev pub most_steps : ℕ
most_steps = 65536

abbrev pub long_stage : ℕ → Option Refusal
long_stage number = stage LongInput (failing_at most_steps (leb number most_steps))

abbrev pub reported_by : Option Refusal → ReportEntry → ReportExit
reported_by None e = record {
  answer = Ok tt;
  scratch = cleared e.circuit.scratch;
  six = filled e.six (report_of (given_circuit e.circuit) e.number e.bytes);
}
reported_by (Some r) e = record { answer = Err r; scratch = cleared e.circuit.scratch; six = cleared e.six }

-- 2, 3, 4 with table 6, 5, 6, 7, 8, 15, then 13, then 12 at 2
abbrev pub report_stages : ReportEntry → List (Option Refusal)
report_stages e =
    let g = e.circuit in
    let n = g.counts in
    sixth_stages g (4 * (n.O + n.L)) e.six
    ++ (long_stage e.number ∷ list_stage (record { circuit = g; number = e.number; bytes = e.bytes }) ∷ [])

abbrev pub report : ReportEntry → ReportExit
report e = reported_by (first_of (report_stages e)) e
