use Rattle.search.specs.Starting.{Started}
use Rattle.search.proofs.begin_rows.Given as goal

abbrev pub invariant-loop-k : goal.invariant-loop-k
invariant-loop-k l = Started l.split l.n l.resets l.k l.met l.marks
