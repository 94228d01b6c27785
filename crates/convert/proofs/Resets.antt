-- Resets are in range, and their variables are defined: each is a constant or its latch's own literal.
use Prim.Native.Nat.{ℕ, suc, ◌<◌}
use mathlib.Core.Path.{◌≡◌, refl}
use mathlib.Core.Bool.{true, false≢true}
use mathlib.Core.List.{List, [], ◌∷◌, map}
use native.Mathlib.Omega.{arith}
use Rattle.plan.specs.Literals.{var_of, is_reset}
use Rattle.plan.specs.Circuit.{Latch, latch_line, current_vars, has, inside, all_inside, resets_ok}
use Rattle.laws.proofs.Ranges.{first-var}
use Rattle.laws.proofs.Reading.Common.{and_left, and_right, and_intro}
use Rattle.laws.proofs.Reading.Members.{has-self, has-later}
use Rattle.laws.proofs.Running.Lists.{all_in}
use Rattle.laws.proofs.Running.Binary.{Bounded}
use Rattle.laws.proofs.Running.Resets.{by-reset}

pub resets-up : (m : ℕ) (ls : List Latch) (rs : List ℕ) → all_inside true m (map latch_line ls) ≡ true → resets_ok ls rs ≡ true
    → Bounded (suc m) rs
resets-up m [] [] i h = tt
resets-up m [] (r ∷ rs) i h = absurd (false≢true h)
resets-up m (l ∷ ls) [] i h = absurd (false≢true h)
resets-up m (l ∷ ls) (r ∷ rs) i h =
    let up = first-var true m l.current (l.next ∷ []) (and_left (inside true m (latch_line l)) _ i) in (
      by-reset l.current r (λ (y : ℕ). var_of y < suc m) (and_left (is_reset l.current r) _ h) (omega arith) (omega arith) (omega arith),
      resets-up m ls rs (and_right (inside true m (latch_line l)) _ i) (and_right (is_reset l.current r) _ h),
    )

pub resets-in : (ds : List ℕ) → has 0 ds ≡ true → (ls : List Latch) (rs : List ℕ) → ((v : ℕ) → has v (current_vars ls) ≡ true → has v ds ≡ true)
    → resets_ok ls rs ≡ true → all_in rs ds ≡ true
resets-in ds z [] [] f h = refl
resets-in ds z [] (r ∷ rs) f h = absurd (false≢true h)
resets-in ds z (l ∷ ls) [] f h = absurd (false≢true h)
resets-in ds z (l ∷ ls) (r ∷ rs) f h =
    and_intro (has (var_of r) ds) (all_in rs ds)
    (by-reset l.current r (λ (y : ℕ). has (var_of y) ds ≡ true) (and_left (is_reset l.current r) _ h) z z
    (f (var_of l.current) (has-self (var_of l.current) (current_vars ls))))
    (resets-in ds z ls rs (λ v k. f v (has-later v (var_of l.current) (current_vars ls) k)) (and_right (is_reset l.current r) _ h))
