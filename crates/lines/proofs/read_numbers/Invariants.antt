-- The numbers passed are read: `turns` carries `Scan` from turn to turn, and `wrong-number`, `wrong-end` and `stops` give the answer.
use Rattle.lines.proofs.Numbers.{Scan}
use Rattle.lines.proofs.read_numbers.Given as goal

abbrev pub invariant-loop-j : goal.invariant-loop-j
invariant-loop-j l = Scan l.file l.must l.may l.at l.base l.initial.words l.initial.places l.words l.places l.pos l.j
