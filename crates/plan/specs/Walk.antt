-- Walks through gates, from some variables on, in any number of steps.
use Rattle.std.specs.Prelude.{ℕ, ◌≡◌, true, cond, List, [], ◌∷◌, ◌++◌, Some}
use Rattle.plan.specs.Literals.{var_of}
use Rattle.plan.specs.Circuit.{Gate, has}
use Rattle.plan.specs.Depends.{find}

-- v is walked to: the walk starts there, or comes there from the gate of a variable that is walked to; `on` says
-- where a gate leads
pub data Walked (on : Gate → List ℕ) (gs : List Gate) (from : List ℕ) : ℕ → Type 0 where
  start : {v : ℕ} → has v from ≡ true → Walked on gs from v
  onward : {u v : ℕ} {g : Gate} → Walked on gs from u → find u gs ≡ Some g → has v (on g) ≡ true → Walked on gs from v

-- the list that computes it in binary order, from the last gate to the first
abbrev pub walk : (Gate → List ℕ) → List Gate → List ℕ → List ℕ
walk on [] from = from
walk on (g ∷ gs) from = let later = walk on gs from in cond (has (var_of g.lhs) later) (on g ++ later) later
