-- The lines of n needles, whose numbers start at `first` in table 6, from a position on. The loop keeps `Lined`. `lined-more`
-- carries it from turn to turn.
use Prim.Native.Nat.{◌+◌, ◌*◌}
use lib.ListN.{take, drop}
use Rattle.plan.specs.Reporter.{needle_line}
use Rattle.runs.proofs.reporting.Lines.{Lined}
use Rattle.runs.proofs.reporting.put_needles.Given as goal

abbrev pub invariant-loop-i : goal.invariant-loop-i
invariant-loop-i l = Lined (λ k. needle_line l.letter k (take 4 (drop (4 * (l.first + k)) l.six))) l.initial.out l.at l.i l.next l.out
