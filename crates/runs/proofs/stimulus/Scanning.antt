-- What a pass over lines keeps.
use Prim.Native.Nat.{ℕ, ◌≤◌}
use mathlib.Core.Path.{◌≡◌}
use mathlib.Core.List.{List}
use lib.ListN.{drop}
use Rattle.runs.specs.stimulus.Scan.{scan}

-- before byte i
module _ (w : ℕ) (bytes : List ℕ) (column number i : ℕ) where
  pub record Scans : Type 0 where
    pub few : number ≤ i
    pub narrow : column ≤ i
    pub left : scan w 0 0 bytes ≡ scan w column number (drop i bytes)
