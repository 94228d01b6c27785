-- The latches' planes, by their resets, behind those of `before` variables: in every row the same. The loop keeps `Grows`. `grows-more` carries it
-- from turn to turn.
use Prim.Native.Nat.{ℕ}
use mathlib.Core.List.{List}
use lib.ListN.{get_or}
use Rattle.rows.specs.Planes.Planes.{other}
use Rattle.rows.specs.lanes.Words.{every_row}
use Rattle.rows.specs.lanes.Working.{Grows}
use Rattle.rows.proofs.lanes.load_resets.Given as goal

-- where latch j differs from a reset
abbrev pub but : ℕ → List ℕ → ℕ → ℕ
but code resets j = every_row (other code (get_or resets j 0))

abbrev pub invariant-loop-j : goal.invariant-loop-j
invariant-loop-j l = Grows l.before (but 0 l.resets) (but 1 l.resets) l.j l.initial.t l.t
