-- A step of rows whose tables and lists are good. The answers are given by `nexts-are` and `outputs-are`.
use mathlib.Core.Path.{◌∙◌}
use Rattle.rows.specs.lanes.Working.{these}
use Rattle.rows.proofs.lanes.Rows.{outputs-are, nexts-are}
use Rattle.rows.proofs.Lists.{ready, shows-nexts, shows-outputs, nexts-room, outs-room}
use Rattle.rows.proofs.step_lists.Goals as goal

pub step_lanes-requires : goal.step_lanes-requires
step_lanes-requires c = ready c.requires.room c.requires.lists

pub store_rows-requires : goal.store_rows-requires
store_rows-requires c =
    record { shows = shows-nexts c.requires.room c.requires.lists _ c.step_lanes.auto.t; rows_bound = (c.requires.lists.most, nexts-room c.requires.room c.requires.lists) }

pub store_rows-requires-2 : goal.store_rows-requires-2
store_rows-requires-2 c =
    record { shows = shows-outputs c.requires.room c.requires.lists _ c.step_lanes.auto.t; rows_bound = (c.requires.lists.most, outs-room c.requires.room c.requires.lists) }

pub returns : goal.returns
returns c =
    λ x r.
    let a = c.args in
    let held = c.step_lanes.ensures (these x a.latches.now a.outputs.now a.gates.now a.resets.now) r in
    record {
      next = c.store_rows.ensures ∙ nexts-are r a.ins.now a.rows held;
      outputs = c.store_rows-2.ensures ∙ outputs-are r a.ins.now a.rows held;
    }
