-- Counts within the limits, in 32 bits; next states that were put at a table's start, spread to latches.
use Prim.Native.Nat.{ℕ, ◌≤◌}
use mathlib.Core.Path.{◌≡◌, sym, ap₂, ◌∙◌}
use mathlib.Core.List.{List, map}
use native.Mathlib.Omega.{arith}
use lib.ListN.{length, take}
use Rattle.plan.specs.declared.Counts.{Counts}
use Rattle.plan.specs.Circuit.{flat, latch_line}
use Rattle.plan.specs.Binary.{latches_from}
use Rattle.plan.specs.Outcome.{put}
use Rattle.laws.proofs.Put.{put_first, put-over}
use Rattle.laws.proofs.Reading.Runs.{length-latches}
use Rattle.laws.proofs.Writing.Holding.{length-latch-words}
use Rattle.cards.specs.Within.{Within}
use Rattle.cards.specs.fill.Filled.{Ready}

pub within : {file : List ℕ} {n : Counts} {inputs latches outputs gates : List ℕ} → Ready file n inputs latches outputs gates → Within n
within r = record {
  small-M = omega (arith, r.most-M);
  small-I = omega (arith, r.most-M, r.sum);
  small-L = omega (arith, r.most-M, r.sum);
  small-O = omega (arith, r.most-O);
  small-A = omega (arith, r.most-M, r.sum);
}

pub latches-spread : (t₀ t₁ t₂ ws : List ℕ) (v n : ℕ) → t₁ ≡ put t₀ 0 ws → length ws ≡ n
    → t₂ ≡ put t₁ 0 (flat (map latch_line (latches_from v (take n t₁)))) → t₂ ≡ put t₀ 0 (flat (map latch_line (latches_from v ws)))
latches-spread t₀ t₁ t₂ ws v n e size q =
    let kept : take n t₁ ≡ ws = ap₂ (λ (k : ℕ) (t : List ℕ). take k t) (sym size) e ∙ put_first t₀ ws in
    let made : List ℕ = flat (map latch_line (latches_from v ws)) in
    let long : length ws ≤ length made = omega (arith, length-latch-words (latches_from v ws), length-latches v ws) in
    q ∙ (ap₂ (λ (t : List ℕ) (x : List ℕ). put t 0 (flat (map latch_line (latches_from v x)))) e kept ∙ put-over t₀ 0 ws made (omega arith) long)
