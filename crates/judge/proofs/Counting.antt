-- The sum of three counts against a fourth, without a sum that could wrap.
use Prim.Native.Nat.{ℕ, ◌+◌, ◌-◌, ◌≤◌}
use mathlib.Core.Path.{◌≡◌, sym, ◌∙◌}
use native.Mathlib.Omega.{arith}
use native.Mathlib.Decide.{dec_le}
use borrow.Author.Tests.{le-leb, lt-leb}
use lib.Dec.{leb}

pub taken-off : (i l a m : ℕ) → i ≤ m → l ≤ m - i → leb a (m - i - l) ≡ leb (i + l + a) m
taken-off i l a m h k = go (dec_le a (m - i - l))
  where
    go : Dec (a ≤ m - i - l) → leb a (m - i - l) ≡ leb (i + l + a) m
    go (yes q) = le-leb a (m - i - l) q ∙ sym (le-leb (i + l + a) m (omega arith))
    go (no q) = lt-leb a (m - i - l) (omega arith) ∙ sym (lt-leb (i + l + a) m (omega arith))
