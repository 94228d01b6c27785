-- The lines passed are read: `passed_to`, `line_word` and `fits` carry `Loop` from turn to turn, and `stops`, `twice-told` and `ends-here` give
-- the answer.
use Rattle.lines.proofs.LinesLoop.{Loop}
use Rattle.lines.proofs.read_lines.Given as goal

abbrev pub invariant-loop-i : goal.invariant-loop-i
invariant-loop-i l = Loop l.file l.k l.defines l.m l.n l.at l.initial.table l.initial.marks l.table l.marks l.pos l.i
