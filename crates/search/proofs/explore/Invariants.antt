use Prim.Native.Nat.{ℕ}
use mathlib.Core.Path.{◌≡◌}
use mathlib.Core.List.{List, map}
use lib.ListN.{length}
use Rattle.plan.specs.Circuit.{circuit_of, seven}
use Rattle.step.specs.sweep.Running.{Runs}
use Rattle.plan.specs.Search.{begin, system_of}
use Rattle.search.specs.Exploring.{Searched, Exploring}
use Rattle.search.proofs.explore.Given as goal

abbrev pub invariant-loop-tries : goal.invariant-loop-tries
invariant-loop-tries l =
    (split : ℕ) (inputs resets : List ℕ) → Runs l.n (seven inputs l.latches l.outputs l.gates resets l.bads l.constraints)
    → Searched split l.n (seven inputs l.latches l.outputs l.gates resets l.bads l.constraints) 0
    (map begin (system_of split (circuit_of l.n (seven inputs l.latches l.outputs l.gates resets l.bads l.constraints))).starts) l.initial.met l.initial.marks
    → length (system_of split (circuit_of l.n (seven inputs l.latches l.outputs l.gates resets l.bads l.constraints))).starts ≡ l.starts
    → Exploring split l.n (seven inputs l.latches l.outputs l.gates resets l.bads l.constraints) l.allowance l.tries l.reached l.met l.marks
