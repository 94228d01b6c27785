-- All vectors of a list, whose bytes are good, from the state that scratch holds. The loop keeps `Going`; `going_on` carries it from turn to turn,
-- and `all-gone` gives the answer.
use Prim.Native.Nat.{ℕ}
use mathlib.Core.Path.{◌≡◌}
use mathlib.Core.List.{List, [], ◌++◌}
use lib.ListN.{length}
use Rattle.plan.specs.Circuit.{Tables, circuit_of}
use Rattle.plan.specs.Step.{Value}
use Rattle.step.specs.sweep.Running.{these, Runs, Rests}
use Rattle.report.specs.Tallying.{tally}
use Rattle.report.proofs.Listing.{Going}
use Rattle.report.proofs.tally.Given as goal

abbrev pub invariant-loop-k : goal.invariant-loop-k
invariant-loop-k l =
    (x : Tables) (s : List Value) (rest : List ℕ) → Runs l.n (these x l.latches l.outputs l.gates) → length s ≡ l.n.L → Rests l.n s l.initial.scratch
    → l.initial.six ≡ tally l.n [] ++ rest
    → Going l.n (circuit_of l.n (these x l.latches l.outputs l.gates)) s l.number l.bytes rest l.scratch l.six l.k
