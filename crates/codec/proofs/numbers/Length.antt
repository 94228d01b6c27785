-- How many digits a number has: exactly, and at most.
use Prim.Native.Nat.{ℕ, suc, zero, ◌+◌, ◌*◌, ◌/◌, ◌%◌, ◌^◌, ◌<◌, ◌≤◌}
use mathlib.Core.Path.{◌≡◌, refl, sym, ap, ◌∙◌}
use mathlib.Core.Bool.{Bool, true, false}
use mathlib.Core.List.{[], ◌∷◌}
use native.Mathlib.Omega.{arith}
use native.Mathlib.Nat.{le_refl, pow-suc}
use borrow.Author.Tests.{ltb-true, ltb-false}
use lib.Dec.{ltb}
use lib.ListN.{length, length-append}
use Rattle.plan.specs.Bytes.{digits}
use Rattle.laws.proofs.Reading.Number.{digits-small, digits_step}

ten-power : (k : ℕ) → 1 ≤ 10 ^ k
ten-power zero = le_refl 1
ten-power (suc k) = rw (pow-suc 10 k) (omega (arith, ten-power k))

pub one : (n : ℕ) → n < 10 → 1 ≡ length (digits n)
one n h = sym (ap length (digits-small n h))

-- one digit more than a tenth of it has
pub more : (n k : ℕ) → 10 ≤ n → k ≡ length (digits (n / 10)) → suc k ≡ length (digits n)
more n k h e = omega (arith, e, ap length (digits_step n h) ∙ length-append (digits (n / 10)) ((48 + n % 10) ∷ []))

pub many : (k n : ℕ) → 10 ^ suc k ≤ n → n < 10 ^ suc (suc k) → suc (suc k) ≡ length (digits n)
many zero n h g = more n 1 h (one (n / 10) (omega arith))
many (suc k) n h g =
    let p = 10 ^ suc k in
    let low : p * 10 ≤ n = rw (← pow-suc 10 (suc k)) h in
    let high : n < p * 10 * 10 = rw (← pow-suc 10 (suc k), ← pow-suc 10 (suc (suc k))) g in
    more n (suc (suc k)) (omega (arith, ten-power (suc k))) (many k (n / 10) (omega arith) (rw (pow-suc 10 (suc k)) (omega arith)))

pub digits-most : (k n : ℕ) → n < 10 ^ suc k → length (digits n) ≤ suc k
digits-most zero n h = omega (arith, ap length (digits-small n h))
digits-most (suc k) n h = go (ltb n 10) refl (λ g. digits-most k (n / 10) g)
  where
    go : (t : Bool) → ltb n 10 ≡ t → (n / 10 < 10 ^ suc k → length (digits (n / 10)) ≤ suc k) → length (digits n) ≤ suc (suc k)
    go true e ih = omega (arith, ap length (digits-small n (ltb-true _ _ e)))
    go false e ih =
        let p : ℕ = 10 ^ suc k in
        let high : n < p * 10 = rw (← pow-suc 10 (suc k)) h in
        let fewer : length (digits (n / 10)) ≤ suc k = ih (omega arith) in
        omega (arith, ap length (digits_step n (ltb-false _ _ e)) ∙ length-append (digits (n / 10)) ((48 + n % 10) ∷ []))

pub digits-twenty : (n : ℕ) → n < 2 ^ 64 → length (digits n) ≤ 20
digits-twenty n h = digits-most 19 n (omega arith)
