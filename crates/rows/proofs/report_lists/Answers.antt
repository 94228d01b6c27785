-- The row report of rows whose tables and inputs are good: per output the rows at 0, at 1 and at x, and zero past them. The answers are given by
-- `put-cleared` and `report-is`.
use Prim.Native.Nat.{ℕ, ◌-◌, ◌^◌}
use mathlib.Core.Path.{ap, ◌∙◌}
use mathlib.Core.List.{List}
use native.Mathlib.Omega.{arith}
use Rattle.plan.specs.Circuit.{filled}
use Rattle.rows.specs.lanes.Working.{these, counts_of}
use Rattle.rows.proofs.lanes.Rows.{report-is}
use Rattle.rows.proofs.Reports.{report-ready, report-shows, put-cleared}
use Rattle.rows.proofs.report_lists.Goals as goal

pub step_lanes-requires : goal.step_lanes-requires
step_lanes-requires c = report-ready c.requires

pub count_rows-requires : goal.count_rows-requires
count_rows-requires c =
    let p = c.requires in
    record { shows = report-shows p _ c.step_lanes.auto.t; rows_bound = p.most; n_in_bounds = omega (arith, p.report-long, c.clear.auto.table) }

pub returns : goal.returns
returns c =
    λ x r.
    let a = c.args in
    let t = c.step_lanes.new.t in
    let held = c.step_lanes.ensures (these x x.latches a.outputs.now a.gates.now a.resets.now) r in
    put-cleared a.report.now c.clear.new.table c.count_rows.new.report
    (counts_of a.outputs.now a.n.O (2 ^ a.rows - 1) t) c.clear.ensures c.count_rows.ensures
    ∙ ap (λ (w : List ℕ). filled a.report.now w) (report-is r a.ins.now a.rows held)
