-- The lines that are left begin within the input.
use Rattle.std.proofs.Common.{◌≤◌, length}
use Rattle.comparer.proofs.compare_all.Given as goal

abbrev pub invariant-loop : goal.invariant-loop
invariant-loop g l = l.at ≤ length l.vectors
