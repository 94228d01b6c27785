-- The lines of as many needles as there is room for: four words of table 6 and 66 bytes for each, the outputs first.
use Rattle.std.specs.Prelude.{ℕ, ◌-◌, ◌/◌, min, List, length}
use Rattle.plan.specs.Reporter.{needle_lines}

abbrev pub rows_for : List ℕ → List ℕ → ℕ
rows_for six out = min (length six / 4) (length out / 66)

abbrev pub fitting_lines : ℕ → ℕ → List ℕ → List ℕ → List ℕ
fitting_lines outputs latches six out =
    let o = min outputs (rows_for six out) in
    needle_lines o (min latches (rows_for six out - o)) six
