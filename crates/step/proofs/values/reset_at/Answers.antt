-- The reset of latch i, 0 past the end. The answers are arithmetic over the tests that led to them.
use mathlib.Core.Path.{sym}
use native.Mathlib.Omega.{arith}
use lib.ListN.{get_or-eq_default}
use Rattle.step.proofs.values.reset_at.Goals as goal

pub returns : goal.returns
returns c =
    let a = c.args in
    sym (get_or-eq_default a.resets.now 0 {n = a.i} (omega arith))
