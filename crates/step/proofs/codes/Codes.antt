-- Codes are looked at one by one.
use Prim.Native.Nat.{ℕ}
use mathlib.Core.Path.{◌≡◌, refl, ap}
use mathlib.Core.Bool.{Bool, ◌&&◌}
use mathlib.Core.List.{List, [], ◌∷◌}
use Rattle.std.specs.List.{list_all}
use Rattle.plan.specs.Step.{is_code}
use Rattle.plan.specs.Outcome.{all_codes}

pub codes-all : (bytes : List ℕ) → all_codes bytes ≡ list_all is_code bytes
codes-all [] = refl
codes-all (b ∷ bytes) = ap (λ (rest : Bool). is_code b && rest) (codes-all bytes)
