-- The digits of a number, counted by dividing by ten.
use Prim.Native.Nat.{ℕ, suc, ◌+◌, ◌/◌, ◌<◌, ◌≤◌}
use mathlib.Core.Path.{◌≡◌, refl}
use native.Mathlib.Omega.{arith}
use lib.ListN.{length}
use Rattle.plan.specs.Bytes.{digits}
use Rattle.codec.proofs.numbers.Length.{one, more}

-- what is left has as many digits as are still to count
pub record Counting (n count rest : ℕ) : Type 0 where
  pub counted : count + length (digits rest) ≡ 1 + length (digits n)

pub begins : (n : ℕ) → Counting n 1 n
begins n = record { counted = refl }

module _ {n count rest : ℕ} (s : Counting n count rest) where
  pub turn : 10 ≤ rest → Counting n (count + 1) (rest / 10)
  turn h =
      let fewer : suc (length (digits (rest / 10))) ≡ length (digits rest) = more rest (length (digits (rest / 10))) h refl in
      record { counted = omega (arith, s.counted) }

  pub all-counted : rest < 10 → count ≡ length (digits n)
  all-counted h = omega (arith, s.counted, one rest h)
