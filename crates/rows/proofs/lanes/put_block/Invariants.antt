-- The codes of a block in each row, which go to the columns from `from` on. The loop keeps `Blocked`. `blocked-more` carries it from turn to turn.
use Prim.Native.Nat.{ℕ, ◌+◌, ◌*◌, ◌/◌, ◌%◌}
use mathlib.Core.List.{List}
use lib.ListN.{get_or}
use Rattle.rows.specs.lanes.Words.{code_by}
use Rattle.rows.specs.lanes.Blocks.{Blocked}
use Rattle.rows.proofs.lanes.put_block.Given as goal

abbrev codes : List ℕ → List ℕ → ℕ → ℕ → ℕ
codes ones boths k j = code_by (get_or ones (64 * (k / 8) + j) 0) (get_or boths (64 * (k / 8) + j) 0) (k % 8)

abbrev pub invariant-loop-k : goal.invariant-loop-k
invariant-loop-k l = Blocked (codes l.ones l.boths) l.from l.w l.n l.k l.initial.out l.out
