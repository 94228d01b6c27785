-- Cards with a count of 2 ^ 32 - 1, computed.
use Prim.Native.Nat.{ℕ}
use mathlib.Core.Path.{◌≡◌, refl}
use mathlib.Core.List.{List, [], ◌∷◌, ◌++◌}
use Rattle.std.specs.Prelude.{Some}
use Rattle.plan.specs.Programs.{bytes_of}
use Rattle.plan.specs.Cards.{filer}

abbrev nothing : List ℕ
nothing = 0 ∷ 0 ∷ 0 ∷ 0 ∷ []

-- counts of 2 ^ 32 - 1 ask for more bytes than there are: 1, before any mark or limit is looked at
pub huge-count : filer (Some (bytes_of "XX" ++ (nothing ++ (nothing ++ ((255 ∷ 255 ∷ 255 ∷ 255 ∷ []) ++ (nothing ++ nothing)))))) ≡ bytes_of "refused 1 at 22\n"
huge-count = refl
