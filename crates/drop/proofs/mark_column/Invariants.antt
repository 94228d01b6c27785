-- Each turn marks one variable.
use Rattle.drop.proofs.Marking.{Column}
use Rattle.drop.proofs.mark_column.Given as goal

abbrev pub invariant-loop-i : goal.invariant-loop-i
invariant-loop-i l = Column l.table l.stride l.start l.initial.t l.t l.i
