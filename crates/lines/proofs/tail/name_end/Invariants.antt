-- The loop keeps the end of the whole name.
use Prim.Native.Nat.{◌≤◌, max}
use mathlib.Core.Path.{◌≡◌}
use lib.ListN.{length}
use Rattle.lines.proofs.tail.Names.{name_end}
use Rattle.lines.proofs.tail.name_end.Given as goal

abbrev pub invariant-loop-i : goal.invariant-loop-i
invariant-loop-i l = (l.i ≤ max l.at (length l.file)) × (name_end l.file l.i ≡ name_end l.file l.at)
