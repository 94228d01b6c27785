-- The numbers passed are read: `turns` carries `Scan` from turn to turn, and `wrong-number`, `wrong-end` and `held` give the answer.
use Rattle.lines.proofs.RowLoop.{Scan}
use Rattle.lines.proofs.read_row.Given as goal

abbrev pub invariant-loop-j : goal.invariant-loop-j
invariant-loop-j l = Scan l.file l.k l.defines l.m l.at l.initial.table l.base l.table l.pos l.d l.bad l.j
