use Prim.Native.Nat.{◌<◌}
use mathlib.Core.List.{List}
use lib.ListN.{length}
use Rattle.plan.specs.Search.{System, Way}
use Rattle.search.specs.Rows.{Rows}
use Rattle.search.proofs.Walking.{Counting}
use Rattle.search.proofs.back.steps_to.Given as goal

abbrev pub invariant-loop-from : goal.invariant-loop-from
invariant-loop-from l = (y : System) (ways : List Way) → Rows y ways l.met → l.place < length ways → Counting y ways l.met l.place l.steps l.from

abbrev pub decreases-loop-from : goal.decreases-loop-from
decreases-loop-from l = l.from
