-- The value of a literal. The answer is that of the call below it.
use Prim.Native.Nat.{ℕ, ◌*◌, ◌%◌}
use mathlib.Core.Path.{ap₂}
use lib.Bits.{bit_or}
use Rattle.step.proofs.sweep.value_of.Goals as goal

pub returns : goal.returns
returns c = ap₂ (λ (x y : ℕ). bit_or x (y * 2 % 4294967296)) c.may_be_0.ensures c.may_be_1.ensures
