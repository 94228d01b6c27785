-- The test of the true sum, by a difference that can not wrap.
use Prim.Native.Nat.{◌+◌}
use mathlib.Core.Path.{sym}
use native.Mathlib.Omega.{arith}
use borrow.Author.Tests.{lt-leb, le-leb}
use Rattle.codec.proofs.room.holds.Goals as goal

pub returns-then-len-at : goal.returns-then-len-at
returns-then-len-at c = let a = c.args in sym (lt-leb (a.at + a.count) a.len (omega arith))

pub returns-then-len-at-2 : goal.returns-then-len-at-2
returns-then-len-at-2 c = let a = c.args in sym (lt-leb (a.at + a.count) a.len (omega arith))

pub returns : goal.returns
returns c = let a = c.args in sym (le-leb (a.at + a.count) a.len (omega arith))
