-- The bytes of cards, part by part, from the words of the tables.
use Rattle.std.specs.Prelude.{ℕ, ◌*◌, ◌≤◌, List, ◌++◌, map, length, take}
use Rattle.plan.specs.declared.Counts.{Counts}
use Rattle.plan.specs.Literals.{most}
use Rattle.plan.specs.Circuit.{latch_of, gate_of, rows_of, nexts}
use Rattle.plan.specs.Cards.{head_card, word_cards, gate_cards}

abbrev pub latch_cards : ℕ → List ℕ → List ℕ
latch_cards n latches = word_cards 76 (nexts (map latch_of (rows_of 2 n latches)))

abbrev pub output_cards : ℕ → List ℕ → List ℕ
output_cards n outputs = word_cards 79 (take n outputs)

abbrev pub gates_cards : ℕ → List ℕ → List ℕ
gates_cards n gates = gate_cards (map gate_of (rows_of 3 n gates))

abbrev pub table_cards : Counts → List ℕ → List ℕ → List ℕ → List ℕ
table_cards n latches outputs gates =
    head_card n ++ (latch_cards n.L latches ++ (output_cards n.O outputs ++ gates_cards n.A gates))

-- counts within the limits, and tables that are long enough for them
pub record Cardable (n : Counts) (latches outputs gates : List ℕ) : Type 0 where
  pub most-M : n.M ≤ most
  pub most-I : n.I ≤ most
  pub most-L : n.L ≤ most
  pub most-O : n.O ≤ most
  pub most-A : n.A ≤ most
  pub latches-long : 2 * n.L ≤ length latches
  pub outputs-long : n.O ≤ length outputs
  pub gates-long : 3 * n.A ≤ length gates
