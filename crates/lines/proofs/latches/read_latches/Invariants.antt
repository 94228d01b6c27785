-- The lines passed are read: `own_at`, `passed_to` and `own-word` carry `Loop` from turn to turn, and `stops`, `twice-told` and `ends-here` give
-- the answer.
use Rattle.lines.proofs.latches.LatchLoop.{Loop}
use Rattle.lines.proofs.latches.read_latches.Given as goal

abbrev pub invariant-loop-i : goal.invariant-loop-i
invariant-loop-i l = Loop l.file l.defines l.m l.more l.first l.n l.at l.initial.table l.initial.resets l.initial.marks l.table l.resets l.marks l.pos l.i
