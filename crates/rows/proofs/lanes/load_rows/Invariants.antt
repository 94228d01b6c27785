-- The inputs' planes, from the rows' bytes, behind the constant's. The loop keeps `Grows`. `grows-join` carries it from turn to turn, and to the end.
use Prim.Native.Nat.{ℕ, ◌≤◌}
use mathlib.Core.List.{List}
use Rattle.rows.specs.Planes.Planes.{column}
use Rattle.rows.specs.lanes.Working.{Grows}
use Rattle.rows.proofs.lanes.load_rows.Given as goal

-- the planes of input j
abbrev pub one : List ℕ → ℕ → ℕ → ℕ → ℕ
one bytes n rows j = column 48 bytes j n rows

abbrev pub zero : List ℕ → ℕ → ℕ → ℕ → ℕ
zero bytes n rows j = column 49 bytes j n rows

abbrev pub invariant-loop-j : goal.invariant-loop-j
invariant-loop-j l = (l.j ≤ l.n) × Grows 1 (one l.bytes l.n l.rows) (zero l.bytes l.n l.rows) l.j l.initial.t l.t
