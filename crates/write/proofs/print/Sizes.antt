-- How many bytes a number of 32 bits has at most.
use Prim.Native.Nat.{ℕ, suc, zero, ◌*◌, ◌/◌, ◌^◌, ◌<◌, ◌≤◌}
use mathlib.Core.Path.{◌≡◌, refl, ap}
use mathlib.Core.Bool.{Bool, true, false}
use native.Mathlib.Nat.{pow-suc}
use native.Mathlib.Omega.{arith}
use borrow.Author.Tests.{ltb-true, ltb-false}
use lib.Dec.{ltb}
use lib.ListN.{length}
use Rattle.plan.specs.Bytes.{digits}
use Rattle.plan.specs.Difference.{groups_of}
use Rattle.laws.proofs.Reading.Differences.{groups-small, groups-step}
use Rattle.codec.proofs.numbers.Length.{digits-most}

pub digits-ten : (n : ℕ) → n < 2 ^ 32 → length (digits n) ≤ 10
digits-ten n h = digits-most 9 n (omega arith)

groups-most : (k d : ℕ) → d < 128 ^ suc k → length (groups_of d) ≤ suc k
groups-most zero d h = omega (arith, ap length (groups-small d h))
groups-most (suc k) d h = go (ltb d 128) refl (λ g. groups-most k (d / 128) g)
  where
    go : (t : Bool) → ltb d 128 ≡ t → (d / 128 < 128 ^ suc k → length (groups_of (d / 128)) ≤ suc k) → length (groups_of d) ≤ suc (suc k)
    go true e ih = omega (arith, ap length (groups-small d (ltb-true _ _ e)))
    go false e ih =
        let p : ℕ = 128 ^ suc k in
        let high : d < p * 128 = rw (← pow-suc 128 (suc k)) h in
        let fewer : length (groups_of (d / 128)) ≤ suc k = ih (omega arith) in
        omega (arith, ap length (groups-step d (ltb-false _ _ e)))

pub groups-five : (d : ℕ) → d < 2 ^ 32 → length (groups_of d) ≤ 5
groups-five d h = groups-most 4 d (omega arith)
