-- The codes of w columns in one row, whose bits are those in a lane of the bytes from `from` on. The loop keeps `Written`.
use Prim.Native.Nat.{◌+◌}
use lib.ListN.{get_or}
use Rattle.rows.specs.lanes.Words.{code_by}
use Rattle.rows.specs.lanes.Blocks.{Written}
use Rattle.rows.proofs.lanes.put_codes.Given as goal

abbrev pub invariant-loop-j : goal.invariant-loop-j
invariant-loop-j l = Written (λ i. code_by (get_or l.ones (l.from + i) 0) (get_or l.boths (l.from + i) 0) l.lane) l.to l.j l.initial.out l.out
