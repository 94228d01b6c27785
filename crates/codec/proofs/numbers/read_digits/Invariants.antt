-- The loop keeps the value and the end of the whole number.
use Rattle.codec.proofs.numbers.Scan.{Scan}
use Rattle.codec.proofs.numbers.read_digits.Given as goal

abbrev pub invariant-loop-i : goal.invariant-loop-i
invariant-loop-i l = Scan l.file l.at l.v l.i
