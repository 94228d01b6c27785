-- Lines without their ends, one after the other.
use Rattle.std.specs.Prelude.{ℕ, cond, List, [], ◌∷◌, eqb, length, take}

abbrev pub packed : List ℕ → List ℕ
packed [] = []
packed (b ∷ l) = cond (eqb b 10) (packed l) (b ∷ packed l)

-- those of as many bytes as a buffer has
abbrev pub packed_into : List ℕ → List ℕ → List ℕ
packed_into out lines = packed (take (length out) lines)
