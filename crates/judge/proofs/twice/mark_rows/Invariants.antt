-- No variable was marked before its row, and all are marked by it.
use Rattle.judge.proofs.twice.Rows.{Loop}
use Rattle.judge.proofs.twice.mark_rows.Given as goal

abbrev pub invariant-loop-i : goal.invariant-loop-i
invariant-loop-i l = Loop l.table l.stride l.n l.initial.marks l.marks l.i
