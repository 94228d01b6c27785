-- 1 for a byte but "0", "1", "x". The answer is that of the call below it.
use Prim.Native.Nat.{ℕ}
use mathlib.Core.Path.{sym, ap, ◌∙◌}
use mathlib.Core.Bool.{Bool, cond}
use Rattle.rows.proofs.not_code.Goals as goal

abbrev wrong : Bool → ℕ
wrong t = cond t 0 1

pub returns-then-is_code : goal.returns-then-is_code
returns-then-is_code c = sym (ap wrong (sym c.is_code.ensures ∙ c.if-is_code.true))

pub returns : goal.returns
returns c = sym (ap wrong (sym c.is_code.ensures ∙ c.if-is_code.false))
