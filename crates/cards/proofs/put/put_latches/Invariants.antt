-- A turn puts one record.
use Prim.Native.Nat.{ℕ}
use Rattle.cards.specs.put.Parts.{latch_cards}
use Rattle.cards.proofs.put.Putting.{Put}
use Rattle.cards.proofs.put.put_latches.Given as goal

abbrev pub invariant-loop-i : goal.invariant-loop-i
invariant-loop-i l = Put l.initial.out l.at (λ (k : ℕ). latch_cards k l.latches) l.n l.out l.next l.i
