-- Whether no byte is wrong. The loop keeps whether none was so far. `left-more` carries it from turn to turn.
use mathlib.Core.Path.{◌≡◌}
use mathlib.Core.Bool.{◌&&◌}
use lib.Dec.{eqb}
use lib.ListN.{drop}
use Rattle.plan.specs.Outcome.{all_codes}
use Rattle.rows.proofs.only_codes.Given as goal

abbrev pub invariant-loop-b : goal.invariant-loop-b
invariant-loop-b l = all_codes l.bytes ≡ (eqb l.wrong 0 && all_codes (drop l.b-index l.bytes))
