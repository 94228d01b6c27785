-- The lines of `width` codes each, in one pass: past the width of a line only a new line can stand, and before it only a code. The loop keeps `Scans
-- width bytes column number i`.
use Rattle.runs.proofs.stimulus.Scanning.{Scans}
use Rattle.runs.proofs.stimulus.scan_lines.Given as goal

abbrev pub invariant-loop-b : goal.invariant-loop-b
invariant-loop-b l = Scans l.width l.bytes l.column l.number l.b-index
