-- The lines of latches in their shortest form, from the words of tables 2 and 7.
use Rattle.std.specs.Prelude.{ℕ, suc, zero, ◌+◌, ◌*◌, Bool, true, false, List, [], ◌∷◌, ◌++◌, map, get_or, take}
use Rattle.plan.specs.Circuit.{latch_of, latch_line, one_line, nexts, rows_of}
use Rattle.plan.specs.Bytes.{line_of, with_resets, unless_zero, without_zeros}

-- a latch's line: its current state, which binary form leaves out, its next state, and its reset unless that is 0
abbrev pub next_line : ℕ → ℕ → List ℕ
next_line next reset = line_of (next ∷ unless_zero reset [])

abbrev pub latch_bytes : Bool → ℕ → ℕ → ℕ → List ℕ
latch_bytes true current next reset = next_line next reset
latch_bytes false current next reset = line_of (current ∷ next ∷ unless_zero reset [])

-- n lines of the tables, in binary form or in text form
abbrev pub latch_rows : Bool → ℕ → List ℕ → List ℕ → List (List ℕ)
latch_rows true n latches resets =
    map (without_zeros 1) (with_resets (map one_line (nexts (map latch_of (rows_of 2 n latches)))) (take n resets))
latch_rows false n latches resets =
    map (without_zeros 2) (with_resets (map latch_line (map latch_of (rows_of 2 n latches))) (take n resets))

-- the bytes of latch i of the tables, and of m latches from i on
abbrev pub latch_bytes_at : Bool → List ℕ → List ℕ → ℕ → List ℕ
latch_bytes_at b t rs i = latch_bytes b (get_or t (2 * i) 0) (get_or t (2 * i + 1) 0) (get_or rs i 0)

abbrev pub latch_bytes_from : Bool → List ℕ → List ℕ → ℕ → ℕ → List ℕ
latch_bytes_from b t rs zero i = []
latch_bytes_from b t rs (suc m) i = latch_bytes_at b t rs i ++ latch_bytes_from b t rs m (i + 1)
