-- The bytes of both forms, part by part, from the words of the tables.
use Rattle.std.specs.Prelude.{ℕ, ◌*◌, ◌≤◌, true, false, List, ◌∷◌, ◌++◌, map, length}
use Rattle.plan.specs.declared.Counts.{Counts}
use Rattle.plan.specs.Literals.{most}
use Rattle.plan.specs.Circuit.{rows_of, gate_of}
use Rattle.plan.specs.Bytes.{line_of, lines_of}
use Rattle.plan.specs.Header.{list_of, short_counts}
use Rattle.plan.specs.Binary.{gate_bytes}
use Rattle.laws.proofs.Reading.Headers.{AllMost}
use Rattle.write.specs.print.Latches.{latch_rows}

-- "a", the letter, "g", a space, and the shortest line of the counts
abbrev pub head_bytes : ℕ → Counts → List ℕ
head_bytes letter n = 97 ∷ letter ∷ 103 ∷ 32 ∷ line_of (short_counts n)

-- n lines of one literal; outputs, bad states and constraints
abbrev pub one_lines : ℕ → List ℕ → List ℕ
one_lines n table = lines_of (rows_of 1 n table)

abbrev pub observed_bytes : Counts → List ℕ → List ℕ → List ℕ → List ℕ
observed_bytes n outputs bads constraints =
    one_lines n.O outputs ++ (one_lines n.B bads ++ one_lines n.C constraints)

-- lines of gates, and gates as differences
abbrev pub gate_lines : Counts → List ℕ → List ℕ
gate_lines n gates = lines_of (rows_of 3 n.A gates)

abbrev pub gate_groups : Counts → List ℕ → List ℕ
gate_groups n gates = gate_bytes (map gate_of (rows_of 3 n.A gates))

abbrev pub text_bytes : Counts → List ℕ → List ℕ → List ℕ → List ℕ → List ℕ → List ℕ → List ℕ → List ℕ
text_bytes n inputs latches outputs gates resets bads constraints =
    head_bytes 97 n ++ (one_lines n.I inputs ++ (lines_of (latch_rows false n.L latches resets)
    ++ (observed_bytes n outputs bads constraints ++ gate_lines n gates)))

abbrev pub binary_bytes : Counts → List ℕ → List ℕ → List ℕ → List ℕ → List ℕ → List ℕ → List ℕ
binary_bytes n latches outputs gates resets bads constraints =
    head_bytes 105 n ++ (lines_of (latch_rows true n.L latches resets)
    ++ (observed_bytes n outputs bads constraints ++ gate_groups n gates))

-- counts within the limits, and tables that are long enough for them
pub record Observable (n : Counts) (outputs bads constraints : List ℕ) : Type 0 where
  pub most-O : n.O ≤ most
  pub most-B : n.B ≤ most
  pub most-C : n.C ≤ most
  pub outputs-long : n.O ≤ length outputs
  pub bads-long : n.B ≤ length bads
  pub constraints-long : n.C ≤ length constraints

pub record Printable (n : Counts) (latches outputs gates resets bads constraints : List ℕ) : Type 0 where
  pub counts-most : AllMost (list_of n)
  pub latches-long : 2 * n.L ≤ length latches
  pub gates-long : 3 * n.A ≤ length gates
  pub resets-long : n.L ≤ length resets
  pub observable : Observable n outputs bads constraints
