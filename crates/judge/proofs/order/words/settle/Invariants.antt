-- Words before this one are settled, the others are as they came.
use Prim.Native.Nat.{ℕ, ◌≤◌, ◌<◌}
use mathlib.Core.Path.{◌≡◌}
use lib.ListN.{get_or}
use Rattle.judge.specs.order.Waiting.{shown}
use Rattle.judge.proofs.order.words.settle.Given as goal

abbrev pub invariant-loop-word : goal.invariant-loop-word
invariant-loop-word l = ((u : ℕ) → u < l.word-index → get_or l.word-items u 0 ≡ shown (get_or l.initial.word-items u 0))
    × ((u : ℕ) → l.word-index ≤ u → get_or l.word-items u 0 ≡ get_or l.initial.word-items u 0)
