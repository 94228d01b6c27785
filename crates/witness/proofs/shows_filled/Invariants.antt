-- Before step k scratch holds the state there, what is left of the filled list answers for all of it, and x is the number of its first x.
use Prim.Native.Nat.{ℕ, ◌+◌, ◌*◌}
use mathlib.Core.Path.{◌≡◌}
use mathlib.Core.List.{List}
use lib.ListN.{length, take}
use Rattle.plan.specs.Circuit.{circuit_of, seven}
use Rattle.plan.specs.Step.{Value}
use Rattle.step.specs.sweep.Running.{Runs, Rests}
use Rattle.witness.proofs.three.Listing.{Going}
use Rattle.plan.specs.Fillings.{x_count, fill_from}
use Rattle.witness.proofs.shows_filled.Given as goal

abbrev pub invariant-loop-k : goal.invariant-loop-k
invariant-loop-k l = (length l.scratch ≡ length l.initial.scratch) × (l.x ≡ l.first + x_count (take (l.n.I * l.k) l.bytes))
    × ((inputs resets : List ℕ) (s : List Value) → Runs l.n (seven inputs l.latches l.outputs l.gates resets l.bads l.constraints) → length s ≡ l.n.L
    → Rests l.n s l.initial.scratch
    → Going l.n (circuit_of l.n (seven inputs l.latches l.outputs l.gates resets l.bads l.constraints)) s l.number (fill_from l.which l.first l.bytes)
    l.scratch l.k)
