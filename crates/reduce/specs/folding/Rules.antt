-- The literal that stands in for a gate, by the rules that look at its sides alone and then by a twin.
use Rattle.std.specs.Prelude.{◌≡◌, List, ℕ, min, max, Option, Some, None}
use Rattle.plan.specs.Circuit.{Gate}
use Rattle.plan.specs.Given.{or_else}
use Rattle.plan.specs.Reduce.{twin, stand_in}
use Rattle.reduce.specs.declared.pairs.Place.{Place}
use Rattle.reduce.specs.declared.pairs.Place.TheVariants.{Taken, Free}
use Rattle.reduce.specs.pairs.Pairs.{named, number_of, Within, Hangs}

-- what a rule gives, or else the twin
abbrev pub Ruled : ℕ → ℕ → Option ℕ → Type 0
Ruled a b r = (gs : List Gate) → stand_in a b gs ≡ or_else r (twin (max a b) (min a b) gs)

-- of the first n gates of a table
abbrev pub StandsIn : List ℕ → List ℕ → ℕ → ℕ → ℕ → ℕ → ℕ → Place → Type 0
StandsIn gates scratch base w n a b (Taken l) = stand_in a b (named base gates n) ≡ Some l
StandsIn gates scratch base w n a b (Free slot) =
    (stand_in a b (named base gates n) ≡ None) × (Within w n slot
    × Hangs gates scratch w n (max a b) (min a b) (number_of w slot))
