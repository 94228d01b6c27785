-- The loop keeps the value and the end of the whole number.
use mathlib.Core.Path.{sym, ◌∙◌}
use native.Mathlib.Omega.{arith}
use borrow.Author.Tests.{not-false}
use Rattle.codec.proofs.numbers.Scan.{step}
use Rattle.codec.proofs.numbers.read_digits.Goals as goal

pub loop-i-preserved : goal.loop-i-preserved
loop-i-preserved c =
    step c.loop-i.invariant _ (omega arith)
    (sym c.is_digit.ensures ∙ not-false _ c.if-not-is_digit.false-raw) c.with_digit-v-in-loop-i.ensures
