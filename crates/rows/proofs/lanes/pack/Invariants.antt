-- The planes of w literals of a table, from the one of column `from` on, as blocks: where each may be 1, and where it may be both. The loop keeps
-- `Packed`.
use Prim.Native.Nat.{◌+◌}
use Rattle.rows.specs.lanes.Words.{plane_at, both_at}
use Rattle.rows.specs.lanes.Working.{literal_at}
use Rattle.rows.specs.lanes.Blocks.{Packed}
use Rattle.rows.proofs.lanes.pack.Given as goal

abbrev pub invariant-loop-j : goal.invariant-loop-j
invariant-loop-j l =
    Packed (λ j. plane_at l.t (literal_at l.table l.start l.stride (l.from + j))) l.j l.ones
    × Packed (λ j. both_at l.t (literal_at l.table l.start l.stride (l.from + j))) l.j l.boths
