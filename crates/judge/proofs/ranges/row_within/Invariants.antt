-- The words that are left decide.
use mathlib.Core.Path.{◌≡◌}
use lib.ListN.{take, drop}
use Rattle.plan.specs.Circuit.{inside}
use Rattle.judge.proofs.ranges.row_within.Given as goal

abbrev pub invariant-loop-word : goal.invariant-loop-word
invariant-loop-word l = inside l.defines l.m (take l.k (drop l.start l.table)) ≡ inside l.first l.m (drop l.word-index l.word-items)
