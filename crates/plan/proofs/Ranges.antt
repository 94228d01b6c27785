-- A literal's range, by its variable.
use Prim.Native.Nat.{ℕ, ◌+◌, ◌*◌, ◌/◌, ◌%◌, ◌≤◌}
use mathlib.Core.Path.{◌≡◌, sym, ◌∙◌}
use mathlib.Core.Bool.{true, false, and-false}
use native.Mathlib.Omega.{arith}
use native.Mathlib.Decide.{dec_le}
use borrow.Author.Tests.{eq-eqb, ne_eqb, le-leb, lt-leb}
use lib.Dec.{eqb, leb}
use Rattle.plan.specs.Literals.{in_range}

-- at most 2M + 1: the variable is at most M
pub uses : (m l : ℕ) → leb (l / 2) m ≡ in_range false m l
uses m l = go (dec_le (l / 2) m)
  where
    go : Dec (l / 2 ≤ m) → leb (l / 2) m ≡ leb l (2 * m + 1)
    go (yes h) = le-leb _ _ h ∙ sym (le-leb l (2 * m + 1) (omega arith))
    go (no h) = lt-leb (l / 2) m (omega arith) ∙ sym (lt-leb l (2 * m + 1) (omega arith))

pub odd : (m l : ℕ) → l % 2 ≡ 1 → false ≡ in_range true m l
odd m l h = rw (ne_eqb (l % 2) 0 (omega arith))

pub zero-var : (m l : ℕ) → l / 2 ≡ 0 → false ≡ in_range true m l
zero-var m l h = rw (lt-leb 2 l (omega arith)) (sym (and-false (eqb (l % 2) 0)))

pub defines : (m l : ℕ) → (l % 2 ≡ 1 → ⊥) → (l / 2 ≡ 0 → ⊥) → leb (l / 2) m ≡ in_range true m l
defines m l e z =
    let even : l % 2 ≡ 0 = omega arith in
    let large : 2 ≤ l = omega arith in
    rw (eq-eqb (l % 2) 0 even, le-leb 2 l large) (go (dec_le (l / 2) m) even)
  where
    go : Dec (l / 2 ≤ m) → l % 2 ≡ 0 → leb (l / 2) m ≡ leb l (2 * m)
    go (yes h) even = le-leb _ _ h ∙ sym (le-leb l (2 * m) (omega arith))
    go (no h) even = lt-leb (l / 2) m (omega arith) ∙ sym (lt-leb l (2 * m) (omega arith))
