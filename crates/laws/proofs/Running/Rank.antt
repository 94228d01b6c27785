-- A rank that falls from each gate to what it uses: no gate depends on itself.
use Prim.Native.Nat.{ℕ, ◌<◌}
use mathlib.Core.List.{List}
use native.Mathlib.Omega.{arith}
use Rattle.plan.specs.Circuit.{Gate}
use Rattle.plan.specs.Depends.{Uses, Depends, one, more}

module _ (gs : List Gate) (rank : ℕ → ℕ) (lower : (u v : ℕ) → Uses gs u v → rank v < rank u) where
  depends-falls : {u v : ℕ} → Depends gs u v → rank v < rank u
  depends-falls (one {u = u} {v = v} x) = lower u v x
  depends-falls (more {u = u} {v = v} x d) = let p = lower u v x in let q = depends-falls d in omega arith

  pub rank-acyclic : (v : ℕ) → ¬ Depends gs v v
  rank-acyclic v d = let p = depends-falls d in omega arith
