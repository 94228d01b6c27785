-- One step of all rows from the resets. Each answer is given by `holds`.
use mathlib.Core.Path.{◌∙◌}
use native.Mathlib.Omega.{arith}
use Rattle.rows.proofs.lanes.Stepping.{sweeps, holds}
use Rattle.rows.proofs.lanes.step_lanes.Goals as goal

pub overflow_add-n-3 : goal.overflow_add-n-3
overflow_add-n-3 c =
    let p = c.requires in
    omega (arith, p.runs.fits.sum, p.runs.fits.most-M)

pub sweep_lanes-requires : goal.sweep_lanes-requires
sweep_lanes-requires c =
    sweeps c.requires _ (c.load_resets.auto.t
    ∙ (c.load_rows.auto.t
    ∙ c.put_planes.auto.t))

pub returns : goal.returns
returns c =
    holds c.requires c.put_planes.new.t c.load_rows.new.t
    c.load_resets.new.t c.sweep_lanes.new.t c.put_planes.ensures c.load_rows.ensures
    c.load_resets.ensures c.sweep_lanes.ensures
