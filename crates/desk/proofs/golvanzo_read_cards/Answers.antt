-- What the reader of cards answers, as numbers.
use Prim.Native.Nat.{ℕ}
use mathlib.Core.Path.{ap, ◌∙◌}
use mathlib.Core.List.{List}
use Rattle.plan.specs.Circuit.{seven}
use Rattle.plan.specs.Outcome.{LoadExit, loaded_values}
use Rattle.desk.specs.Told.{CardsTold}
use Rattle.desk.proofs.golvanzo_read_cards.Goals as goal

-- the answer, and all else as the reader left it
abbrev told : List ℕ → LoadExit → CardsTold
told answer x = record { answer = answer; tables = x.tables; scratch = x.scratch }

pub returns : goal.returns
returns c =
    let x : LoadExit = record {
      answer = c.read_cards-r.result;
      tables = seven c.read_cards-r.new.inputs c.read_cards-r.new.latches c.read_cards-r.new.outputs c.read_cards-r.new.gates c.read_cards-r.new.resets c.read_cards-r.new.bads c.read_cards-r.new.constraints;
      scratch = c.read_cards-r.new.scratch;
    } in
    ap (λ (answer : List ℕ). told answer x) c.loaded.ensures ∙ ap (λ (y : LoadExit). told (loaded_values y.answer) y) c.read_cards-r.ensures
