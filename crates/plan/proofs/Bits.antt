-- The lowest bit of a literal, toggled.
use Prim.Native.Nat.{ℕ, zero, suc, ◌<◌}
use mathlib.Core.Path.{◌≡◌}
use native.Mathlib.Omega.{arith}
use lib.Bits.{bit_xor, and_mask, xor_add_and}
use Rattle.plan.specs.Literals.{neg_of, signed}

-- `n ^ 1`
pub toggled : (n : ℕ) → bit_xor n 1 ≡ neg_of n
toggled n = omega (arith, xor_add_and n 1, and_mask n 1)

-- `n ^ 0`
pub unchanged : (n : ℕ) → bit_xor n 0 ≡ n
unchanged n = omega (arith, xor_add_and n 0, and_mask n 0)

-- `n ^ s` of a sign
pub toggled-by : (n s : ℕ) → s < 2 → bit_xor n s ≡ signed s n
toggled-by n zero h = unchanged n
toggled-by n (suc zero) h = toggled n
toggled-by n (suc (suc s)) h = absurd (omega arith)
