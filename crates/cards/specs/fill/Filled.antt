-- What cards of these counts leave in tables, and the room that they ask.
use Rattle.std.specs.Prelude.{ℕ, ◌+◌, ◌*◌, ◌≤◌, ◌≡◌, List, [], ◌∷◌, map, length, Option}
use Rattle.plan.specs.declared.Counts.{Counts}
use Rattle.plan.specs.declared.Refusal.{Refusal}
use Rattle.plan.specs.declared.Refusal.TheVariants.{OutOfRange, NotInOrder}
use Rattle.plan.specs.Literals.{most}
use Rattle.plan.specs.Refusals.{stage}
use Rattle.plan.specs.Circuit.{Circuit, flat, latch_line, gate_line}
use Rattle.plan.specs.Binary.{binary_order}
use Rattle.plan.specs.Given.{failing, outside_in}
use Rattle.plan.specs.Outcome.{put}
use Rattle.plan.specs.Cards.{card_bytes}

-- a file of the length that its counts ask, counts within the limits that add up, and tables that are long enough
pub record Ready (file : List ℕ) (n : Counts) (inputs latches outputs gates : List ℕ) : Type 0 where
  pub size : length file ≡ card_bytes n
  pub most-M : n.M ≤ most
  pub most-O : n.O ≤ most
  pub sum : n.I + n.L + n.A ≡ n.M
  pub inputs_long : n.I ≤ length inputs
  pub latches-long : 2 * n.L ≤ length latches
  pub outputs-long : n.O ≤ length outputs
  pub gates-long : 3 * n.A ≤ length gates

-- tables 1 to 4 hold a circuit from their start on, all else as it was
pub record FirstHold (inputs latches outputs gates : List ℕ) (c : Circuit)
    (inputs' latches' outputs' gates' : List ℕ) : Type 0 where
  pub inputs-held : inputs' ≡ put inputs 0 c.inputs
  pub latches-held : latches' ≡ put latches 0 (flat (map latch_line c.latches))
  pub outputs-held : outputs' ≡ put outputs 0 c.outputs
  pub gates-held : gates' ≡ put gates 0 (flat (map gate_line c.gates))

-- 5, then 15
abbrev pub judged_by : Circuit → List (Option Refusal)
judged_by c = stage OutOfRange (outside_in c) ∷ stage NotInOrder (failing (binary_order c)) ∷ []
