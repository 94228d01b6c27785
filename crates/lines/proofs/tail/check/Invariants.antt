-- The loop keeps the answer from here on, with the symbols seen; the measure is what is left of the file.
use Prim.Native.Nat.{◌-◌}
use lib.ListN.{length}
use Rattle.lines.proofs.tail.Turns.{Turn}
use Rattle.lines.proofs.tail.check.Given as goal

abbrev pub invariant-loop-pos : goal.invariant-loop-pos
invariant-loop-pos l = Turn l.version l.file l.n l.at (length l.initial.marks) l.marks l.pos

abbrev pub decreases-loop-pos : goal.decreases-loop-pos
decreases-loop-pos l = length l.file - l.pos
