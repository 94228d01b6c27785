-- Before step k scratch holds the state there, and what is left of the list answers for all of it.
use Prim.Native.Nat.{ℕ}
use mathlib.Core.Path.{◌≡◌}
use mathlib.Core.List.{List}
use lib.ListN.{length}
use Rattle.plan.specs.Circuit.{circuit_of, seven}
use Rattle.plan.specs.Step.{Value}
use Rattle.step.specs.sweep.Running.{Runs, Rests}
use Rattle.witness.proofs.three.Listing.{Going}
use Rattle.witness.proofs.three.shows_one.Given as goal

abbrev pub invariant-loop-k : goal.invariant-loop-k
invariant-loop-k l = (length l.scratch ≡ length l.initial.scratch)
    × ((inputs resets : List ℕ) (s : List Value) → Runs l.n (seven inputs l.latches l.outputs l.gates resets l.bads l.constraints) → length s ≡ l.n.L
    → Rests l.n s l.initial.scratch
    → Going l.n (circuit_of l.n (seven inputs l.latches l.outputs l.gates resets l.bads l.constraints)) s l.number l.bytes l.scratch l.k)
