-- The program `reporter` and its output: every byte that it writes.
use Rattle.std.specs.Prelude.{ℕ, ◌+◌, ◌*◌, List, ◌∷◌, ◌++◌, map, leb, length, take, drop, Option}
use Rattle.plan.specs.declared.Refusal.TheVariants.{ShortTable}
use Rattle.plan.specs.Refusals.{got, ◌then◌, unless}
use Rattle.plan.specs.Bytes.{digits, line_of}
use Rattle.plan.specs.Reading.{read_to_work}
use Rattle.plan.specs.Given.{failing_at}
use Rattle.plan.specs.Convert.{convert}
use Rattle.plan.specs.Step.{value_of, run, first_state}
use Rattle.plan.specs.Programs.{lent_words, printed, input, stimulus}
use Rattle.plan.specs.Report.{in_turn, needles}

-- 16,384 words for table 6
abbrev pub six_words : ℕ
six_words = 16384

-- a needle's line: a letter with its position, and its four numbers, one space between
abbrev pub needle_line : ℕ → ℕ → List ℕ → List ℕ
needle_line letter i row = letter ∷ (digits i ++ (32 ∷ line_of row))

-- "o" for each output, then "l" for each latch, by the numbers of a report
abbrev pub needle_lines : ℕ → ℕ → List ℕ → List ℕ
needle_lines outputs latches numbers =
    in_turn (λ i. needle_line 111 i (take 4 (drop (4 * i) numbers))) outputs
    ++ in_turn (λ i. needle_line 108 i (take 4 (drop (4 * (outputs + i)) numbers))) latches

-- the reporter converts the circuit; all of plan.in's refusals, and 4 at table 6 after them, come before those of
-- standard input
abbrev pub reporter : Option (List ℕ) → Option (List ℕ) → List ℕ
reporter plan_in standard_in =
    printed (input plan_in λ file.
    read_to_work file lent_words lent_words then λ c _.
    unless (failing_at 6 (leb (4 * (length c.outputs + length c.latches)) six_words)) ShortTable
    (input standard_in λ bytes.
    stimulus (length c.inputs) bytes then λ list end.
    let d = convert c in
    got (needle_lines (length d.outputs) (length d.latches)
    (needles d (run d (first_state d) (map (map value_of) list)))) end))
