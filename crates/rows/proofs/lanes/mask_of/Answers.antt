-- The lanes that have a row. Each answer is given by `one_shl`.
use Prim.Native.Nat.{ℕ, ◌-◌, ◌^◌}
use mathlib.Core.Path.{sym, ap}
use native.Mathlib.Omega.{arith}
use lib.Pow.{suc_ones}
use Rattle.rows.proofs.lanes.Turns.{one_shl}
use Rattle.rows.proofs.lanes.mask_of.Goals as goal

pub returns-then-rows-eq64 : goal.returns-then-rows-eq64
returns-then-rows-eq64 c = sym (ap (λ (n : ℕ). 2 ^ n - 1) c.if-rows-eq64.true)

pub overflow_sub-result : goal.overflow_sub-result
overflow_sub-result c = omega (arith, one_shl c.args.rows (omega arith), suc_ones c.args.rows)

pub returns : goal.returns
returns c = ap (λ (m : ℕ). m - 1) (one_shl c.args.rows (omega arith))
