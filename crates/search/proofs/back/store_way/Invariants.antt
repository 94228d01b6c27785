use Prim.Native.Nat.{ℕ, suc, ◌+◌, ◌*◌, ◌≤◌}
use mathlib.Core.Path.{◌≡◌}
use mathlib.Core.List.{List}
use lib.ListN.{length}
use Rattle.plan.specs.Search.{System, Way}
use Rattle.search.specs.Rows.{at, Rows}
use Rattle.search.proofs.Walking.{Storing}
use Rattle.search.proofs.back.store_way.Given as goal

abbrev pub invariant-loop-from : goal.invariant-loop-from
invariant-loop-from l = (length l.out ≡ length l.initial.out)
    × ((y : System) (ways : List Way) → Rows y ways l.met → (o : List ℕ) → l.steps ≡ suc (length (at ways l.place).list) → l.n.L + l.steps * l.n.I ≤ length o
    → Storing y ways l.n l.met l.place l.m o l.initial.out l.initial.at l.initial.p l.initial.from → Storing y ways l.n l.met l.place l.m o l.out l.at l.p l.from)

abbrev pub decreases-loop-from : goal.decreases-loop-from
decreases-loop-from l = l.p
