-- A turn puts one record.
use Prim.Native.Nat.{ℕ}
use Rattle.cards.specs.put.Parts.{output_cards}
use Rattle.cards.proofs.put.Putting.{Put}
use Rattle.cards.proofs.put.put_outputs.Given as goal

abbrev pub invariant-loop-output : goal.invariant-loop-output
invariant-loop-output l = Put l.initial.out l.at (λ (k : ℕ). output_cards k l.outputs) l.n l.out l.next l.output-index
