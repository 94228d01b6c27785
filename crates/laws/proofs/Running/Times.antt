-- Counting values: each is one of the three.
use Prim.Native.Nat.{◌+◌}
use mathlib.Core.Path.{◌≡◌, refl}
use mathlib.Core.Bool.{cond}
use mathlib.Core.List.{List, [], ◌∷◌}
use native.Mathlib.Omega.{arith}
use lib.ListN.{length}
use Rattle.plan.specs.Step.{Value, v0, v1, vx, same}
use Rattle.plan.specs.Report.{times}

one_of : (b : Value) → cond (same b v0) 1 0 + cond (same b v1) 1 0 + cond (same b vx) 1 0 ≡ 1
one_of v0 = refl
one_of v1 = refl
one_of vx = refl

-- none is lost, and none counted twice
pub all-counted : (l : List Value) → times v0 l + times v1 l + times vx l ≡ length l
all-counted [] = refl
all-counted (b ∷ l) = omega (arith, one_of b, all-counted l)
