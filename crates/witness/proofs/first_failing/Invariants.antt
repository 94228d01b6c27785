-- Fillings are tried from 0 up, `most` of them: those below `tried` all show a 1.
use Prim.Native.Nat.{ℕ, ◌<◌}
use mathlib.Core.Path.{◌≡◌}
use mathlib.Core.Bool.{true}
use mathlib.Core.List.{List}
use lib.ListN.{length}
use Rattle.plan.specs.Circuit.{circuit_of, seven}
use Rattle.step.specs.sweep.Running.{Runs}
use Rattle.plan.specs.Fillings.{filled_shows}
use Rattle.witness.proofs.first_failing.Given as goal

abbrev pub invariant-loop-tried : goal.invariant-loop-tried
invariant-loop-tried l = (length l.scratch ≡ length l.initial.scratch)
    × ((inputs : List ℕ) → Runs l.n (seven inputs l.latches l.outputs l.gates l.resets l.bads l.constraints) → (i : ℕ) → i < l.tried
    → filled_shows (circuit_of l.n (seven inputs l.latches l.outputs l.gates l.resets l.bads l.constraints)) l.number l.bytes i ≡ true)
