-- Where a name ends that starts at a position.
use Prim.Native.Nat.{ℕ, ◌+◌}
use mathlib.Core.List.{List}
use lib.ListN.{length, drop}
use Rattle.plan.specs.Bytes.{name_class, span}

abbrev pub name_end : List ℕ → ℕ → ℕ
name_end file at = at + length (span name_class (drop at file))
