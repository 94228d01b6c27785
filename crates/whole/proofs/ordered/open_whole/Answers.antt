-- What was opened, and then the tables it was read into zero.
use mathlib.Core.Path.{◌∙◌}
use mathlib.Core.List.{[]}
use Rattle.plan.specs.Circuit.{Tables, seven}
use Rattle.plan.specs.Whole.{WholeEntry, input_of}
use Rattle.read.proofs.Loads.{all_same}
use Rattle.whole.proofs.ordered.Converted.{closed}
use Rattle.whole.proofs.ordered.open_whole.Goals as goal

pub returns : goal.returns
returns c =
    let a = c.args in
    let read : Tables = seven a.inputs.now a.latches.now a.outputs.now a.gates.now a.resets.now a.bads.now a.constraints.now in
    let lent : Tables = seven a.made_inputs.now a.made_latches.now a.made_outputs.now a.made_gates.now
    a.made_resets.now a.made_bads.now a.made_constraints.now in
    let w : WholeEntry = record { plan = input_of a.readable a.file.now; read = read; made = lent; scratch = a.scratch.now; out = [] } in
    let read' : Tables = seven c.open_made-answer.new.inputs c.open_made-answer.new.latches c.open_made-answer.new.outputs c.open_made-answer.new.gates
    c.open_made-answer.new.resets c.open_made-answer.new.bads c.open_made-answer.new.constraints in
    closed w _ c.open_made-answer.ensures _
    (c.clear_all.ensures ∙ all_same read' read c.open_made-answer.auto.inputs c.open_made-answer.auto.latches c.open_made-answer.auto.outputs c.open_made-answer.auto.gates
    c.open_made-answer.auto.resets c.open_made-answer.auto.bads c.open_made-answer.auto.constraints)
