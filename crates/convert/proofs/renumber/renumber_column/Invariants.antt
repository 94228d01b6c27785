-- Each turn writes one literal.
use Rattle.convert.specs.renumber.Renumbered.{column_by}
use Rattle.convert.proofs.renumber.Columns.{Written}
use Rattle.convert.proofs.renumber.renumber_column.Given as goal

abbrev pub invariant-loop-i : goal.invariant-loop-i
invariant-loop-i l = Written (column_by l.t l.table l.stride l.column) l.n l.initial.to l.to l.i
