-- The same, unless it is known. All that is left is found by search.
use mathlib.Core.Path.{sym}
use Rattle.judge.proofs.ranges.known_within.Goals as goal

pub returns-then-known : goal.returns-then-known
returns-then-known c = sym (c.requires.table_value c.if-known.true)
