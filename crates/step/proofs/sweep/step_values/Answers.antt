-- One step, from the state and the inputs that stand in the leaves' words. Each answer is given by `stepped`.
use Rattle.step.proofs.sweep.Settling.{spreads, sweeps}
use Rattle.step.proofs.sweep.Stepping.{looks-outputs, looks-nexts, stepped}
use Rattle.step.proofs.sweep.step_values.Goals as goal

pub spread_leaves-requires : goal.spread_leaves-requires
spread_leaves-requires c =
    let p = c.requires in
    spreads p.runs p.scratch p.stands

pub sweep_gates-requires : goal.sweep_gates-requires
sweep_gates-requires c =
    let p = c.requires in
    sweeps p.runs p.scratch p.stands c.spread_leaves.auto.t c.spread_leaves.ensures

pub look_up-requires : goal.look_up-requires
look_up-requires c =
    let p = c.requires in
    looks-outputs p.runs p.scratch p.stands c.spread_leaves.auto.t c.spread_leaves.ensures c.sweep_gates.auto.t
    c.sweep_gates.ensures

pub look_up-requires-2 : goal.look_up-requires-2
look_up-requires-2 c =
    let p = c.requires in
    looks-nexts p.runs p.scratch p.stands c.spread_leaves.auto.t c.spread_leaves.ensures c.sweep_gates.auto.t
    c.sweep_gates.ensures c.look_up.auto.t c.look_up.ensures

pub returns : goal.returns
returns c =
    λ others s i r stands.
    stepped r c.requires.scratch stands c.spread_leaves.auto.t c.spread_leaves.ensures c.sweep_gates.auto.t
    c.sweep_gates.ensures c.look_up.auto.t c.look_up.ensures c.look_up-2.ensures
