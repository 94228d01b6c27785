-- Refusal 3: whether I + L + A is at most M, as a true sum. Each answer is given by `taken-off`.
use Prim.Native.Nat.{◌+◌}
use mathlib.Core.Path.{sym}
use native.Mathlib.Omega.{arith}
use borrow.Author.Tests.{lt-leb}
use Rattle.judge.proofs.Counting.{taken-off}
use Rattle.judge.proofs.adds_up.Goals as goal

pub returns-then-n : goal.returns-then-n
returns-then-n c = let n = c.args.n in sym (lt-leb (n.I + n.L + n.A) n.M (omega arith))

pub returns-then-left-n : goal.returns-then-left-n
returns-then-left-n c = let n = c.args.n in sym (lt-leb (n.I + n.L + n.A) n.M (omega arith))

pub returns : goal.returns
returns c = let n = c.args.n in taken-off n.I n.L n.A n.M c.if-n.false c.if-left-n.false
