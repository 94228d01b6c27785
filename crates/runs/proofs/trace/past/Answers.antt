-- The position past the next `count` lines, or the end of the bytes, which it is too where `from` is past it. Unless it is, the loop keeps `Passing
-- bytes from count at left`. `past-lines` and `past_all` give the answer.
use native.Mathlib.Omega.{arith}
use Rattle.runs.proofs.trace.Passing.{past-lines, past_all}
use Rattle.runs.proofs.trace.past.Goals as goal

pub returns-then-left-eq0-clause-value : goal.returns-then-left-eq0-clause-value
returns-then-left-eq0-clause-value c = past-lines (c.loop-at.invariant (omega arith)) c.if-left-eq0.true

pub returns-clause-value : goal.returns-clause-value
returns-clause-value c = let a = c.args in past_all a.bytes.now a.from a.count c.loop-at.at c.loop-at.left c.loop-at-test.false c.loop-at.invariant
