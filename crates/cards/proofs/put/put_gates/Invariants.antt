-- A turn puts one record, of two numbers.
use Prim.Native.Nat.{ℕ}
use Rattle.cards.specs.put.Parts.{gates_cards}
use Rattle.cards.proofs.put.Putting.{Put}
use Rattle.cards.proofs.put.put_gates.Given as goal

abbrev pub invariant-loop-i : goal.invariant-loop-i
invariant-loop-i l = Put l.initial.out l.at (λ (k : ℕ). gates_cards k l.gates) l.n l.out l.next l.i
