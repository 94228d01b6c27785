-- Whether a table 6 of these words is too short for four for each output and each latch. The answers hold by computing.
use Prim.Native.Nat.{ℕ, ◌+◌, ◌*◌, ◌<◌, ◌≤◌, ◌/◌, ◌-◌}
use mathlib.Core.Path.{◌≡◌, sym, ◌∙◌}
use mathlib.Core.Bool.{true}
use native.Mathlib.Omega.{arith}
use native.Mathlib.Decide.{dec_lt}
use borrow.Author.Tests.{lt-ltb, le-ltb}
use lib.Dec.{ltb}
use Rattle.report.proofs.too_few.Goals as goal

many-outputs : (words o l : ℕ) → words / 4 < o → true ≡ ltb words (4 * (o + l))
many-outputs words o l h = sym (lt-ltb words (4 * (o + l)) (omega arith))

by-latches : (words o l : ℕ) → o ≤ words / 4 → ltb (words / 4 - o) l ≡ ltb words (4 * (o + l))
by-latches words o l h = go (dec_lt (words / 4 - o) l)
  where
    go : Dec (words / 4 - o < l) → ltb (words / 4 - o) l ≡ ltb words (4 * (o + l))
    go (yes k) = lt-ltb (words / 4 - o) l k ∙ sym (lt-ltb words (4 * (o + l)) (omega arith))
    go (no k) = le-ltb (words / 4 - o) l (omega arith) ∙ sym (le-ltb words (4 * (o + l)) (omega arith))

pub returns-then-rows-n : goal.returns-then-rows-n
returns-then-rows-n c = many-outputs _ _ _ c.if-rows-n.true

pub returns : goal.returns
returns c = by-latches _ _ _ c.if-rows-n.false
