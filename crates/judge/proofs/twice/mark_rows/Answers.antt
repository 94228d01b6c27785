-- No variable was marked before its row, and all are marked by it.
use Prim.Native.Nat.{◌<◌}
use mathlib.Core.Path.{◌≡◌, sym, ap, ◌∙◌}
use native.Mathlib.Omega.{arith}
use lib.ListN.{length}
use Rattle.plan.specs.Literals.{index_of, halved}
use Rattle.laws.proofs.Tables.{head_at}
use Rattle.judge.proofs.twice.Rows.{stops, turns, ends}
use Rattle.judge.proofs.twice.mark_rows.Goals as goal
use Rattle.judge.proofs.twice.mark_rows.Goals.{After-index-v}

-- the variable of row i
is-head : (c : After-index-v) → c.index-v.result ≡ head_at c.args.table.now c.args.stride c.loop-i.i
is-head c = c.index-v.ensures ∙ ap index_of (c.var.ensures ∙ ap halved c.at.ensures)

in-marks : (c : After-index-v) → c.index-v.result < length c.loop-i.marks
in-marks c = omega (arith, is-head c, c.requires.by_index c.loop-i.i c.loop-i-test.true, c.loop-i.invariant.wide)

pub is_on-requires : goal.is_on-requires
is_on-requires c = omega (arith, in-marks (goal.at.is_on-requires c).After-index-v)

pub returns-then-is_on : goal.returns-then-is_on
returns-then-is_on c =
    stops c.loop-i.invariant c.index-v.result (is-head (goal.at.returns-then-is_on c).After-index-v) c.loop-i-test.true
    (sym c.is_on.ensures ∙ c.if-is_on.true) c.loop-i.marks

pub raise-requires : goal.raise-requires
raise-requires c = omega (arith, in-marks (goal.at.raise-requires c).After-index-v)

pub loop-i-preserved : goal.loop-i-preserved
loop-i-preserved c =
    let d = (goal.at.loop-i-preserved c).After-index-v in
    turns c.loop-i.invariant c.index-v.result (is-head d) c.loop-i-test.true
    (sym c.is_on.ensures ∙ c.if-is_on.false) (in-marks d) _ c.raise.ensures

pub returns : goal.returns
returns c = ends c.loop-i.invariant (omega arith)
