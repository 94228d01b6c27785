-- Lines that define nothing do not depend on what was defined before them.
use Prim.Native.Nat.{ℕ, suc, zero}
use mathlib.Core.Path.{◌≡◌, refl}
use mathlib.Core.Bool.{false}
use mathlib.Core.List.{List, [], ◌∷◌, ◌++◌}
use Rattle.plan.specs.Refusals.{got, ◌then◌}
use Rattle.plan.specs.Literals.{var_of}
use Rattle.plan.specs.Circuit.{literal_of}
use Rattle.plan.specs.Bytes.{line, lines}

pub lines-using : (file : List ℕ) (k m n : ℕ) (s s' : List ℕ) (at : ℕ) → lines file k false m n s at ≡ lines file k false m n s' at
lines-using file k m zero s s' at = refl
lines-using file k m (suc n) s s' at = λ i.
    line file k false m s at then λ row next.
    lines-using file k m n (s ++ (var_of (literal_of row) ∷ [])) (s' ++ (var_of (literal_of row) ∷ [])) next i then λ rows last.
    got (row ∷ rows) last
