-- What is asked where nothing is refused, and what is left in the buffers and in table 6.
use Rattle.std.specs.Prelude.{ℕ, ◌*◌, ◌≤◌, ◌≡◌, List, eqb, length, Option}
use Rattle.plan.specs.declared.Counts.{Counts}
use Rattle.plan.specs.Circuit.{Circuit, Tables}
use Rattle.plan.specs.Given.{or_else, failing_at}
use Rattle.plan.specs.Outcome.{vector_of}
use Rattle.tables.specs.Held.{Scratch}
use Rattle.step.specs.sweep.Running.{Runs}
use Rattle.plan.specs.Rows.{row_steps, output_bytes, next_bytes}
use Rattle.rows.specs.lanes.Working.{these}

-- tables that hold an accepted circuit in binary order, and room in scratch
pub record Room (n : Counts) (latches outputs gates resets scratch : List ℕ) : Type 0 where
  pub others : Tables
  pub runs : Runs n (these others latches outputs gates resets)
  pub scratch-long : Scratch n scratch

-- 12 by the lengths of the buffers
abbrev pub bad_rows : Counts → ℕ → ℕ → List ℕ → ℕ → Option ℕ
bad_rows n rows nexts ins outs =
    or_else (failing_at 1 (eqb nexts (rows * n.L))) (or_else (vector_of 2 (rows * n.I) ins)
    (failing_at 3 (eqb outs (rows * n.O))))

-- rows that have lanes, their inputs and buffers
pub record Lists (n : Counts) (rows : ℕ) (nexts ins outs : List ℕ) : Type 0 where
  pub most : rows ≤ 64
  pub nexts-length : length nexts ≡ rows * n.L
  pub ins-length : length ins ≡ rows * n.I
  pub outs-length : length outs ≡ rows * n.O

pub record Leaves (c : Circuit) (rows : ℕ) (ins nexts outs : List ℕ) : Type 0 where
  pub next : nexts ≡ next_bytes (row_steps c rows ins)
  pub outputs : outs ≡ output_bytes (row_steps c rows ins)

-- the same for a report: table 6 has three words for each output
pub record Reports (n : Counts) (outputs gates resets : List ℕ) (rows : ℕ) (ins scratch report : List ℕ) : Type 0 where
  pub others : Tables
  pub runs : Runs n (these others others.latches outputs gates resets)
  pub scratch-long : Scratch n scratch
  pub most : rows ≤ 64
  pub ins-length : length ins ≡ rows * n.I
  pub report-long : 3 * n.O ≤ length report
