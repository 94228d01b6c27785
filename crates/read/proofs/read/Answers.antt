-- The answers are given by `read_by`, `part-from` and `refusal-told`.
use mathlib.Core.Path.{sym, ap, ◌∙◌}
use native.Mathlib.Omega.{arith}
use Rattle.plan.specs.Circuit.{Tables, seven}
use Rattle.plan.specs.Outcome.{ReadEntry, LoadExit, loaded_values, tail_of}
use Rattle.answers.proofs.numbers.Refused.{refusal-told}
use Rattle.read.proofs.Answers.{part-from, part_none, starts-within, read_by}
use Rattle.read.proofs.read.Goals as goal

pub slice_bounds-result-count : goal.slice_bounds-result-count
slice_bounds-result-count c =
    let a = c.args in
    let t : Tables = seven a.inputs.now a.latches.now a.outputs.now a.gates.now a.resets.now a.bads.now a.constraints.now in
    let e : ReadEntry = record { file = a.file.now; tables = t; scratch = a.scratch.now } in
    let t' : Tables = seven c.load.new.inputs c.load.new.latches c.load.new.outputs c.load.new.gates
    c.load.new.resets c.load.new.bads c.load.new.constraints in
    let x : LoadExit = record { answer = c.load.result; tables = t'; scratch = c.load.new.scratch } in
    let said = c.load.ensures in
    omega (arith, starts-within a.version e x said _ _ c.in-Ok.is)

pub slice_bounds-result-start : goal.slice_bounds-result-start
slice_bounds-result-start c =
    let a = c.args in
    let t : Tables = seven a.inputs.now a.latches.now a.outputs.now a.gates.now a.resets.now a.bads.now a.constraints.now in
    let e : ReadEntry = record { file = a.file.now; tables = t; scratch = a.scratch.now } in
    let t' : Tables = seven c.load.new.inputs c.load.new.latches c.load.new.outputs c.load.new.gates
    c.load.new.resets c.load.new.bads c.load.new.constraints in
    let x : LoadExit = record { answer = c.load.result; tables = t'; scratch = c.load.new.scratch } in
    let said = c.load.ensures in
    omega (arith, starts-within a.version e x said _ _ c.in-Ok.is)

pub shape_of-inputs-in-Ok : goal.shape_of-inputs-in-Ok
shape_of-inputs-in-Ok c = c.load.auto.inputs

pub shape_of-latches-in-Ok : goal.shape_of-latches-in-Ok
shape_of-latches-in-Ok c = c.load.auto.latches

pub shape_of-outputs-in-Ok : goal.shape_of-outputs-in-Ok
shape_of-outputs-in-Ok c = c.load.auto.outputs

pub shape_of-gates-in-Ok : goal.shape_of-gates-in-Ok
shape_of-gates-in-Ok c = c.load.auto.gates

pub shape_of-resets-in-Ok : goal.shape_of-resets-in-Ok
shape_of-resets-in-Ok c = c.load.auto.resets

pub shape_of-bads-in-Ok : goal.shape_of-bads-in-Ok
shape_of-bads-in-Ok c = c.load.auto.bads

pub shape_of-constraints-in-Ok : goal.shape_of-constraints-in-Ok
shape_of-constraints-in-Ok c = c.load.auto.constraints

pub shape_of-scratch-in-Ok : goal.shape_of-scratch-in-Ok
shape_of-scratch-in-Ok c = c.load.auto.scratch

pub returns-in-Ok : goal.returns-in-Ok
returns-in-Ok c =
    let a = c.args in
    let t : Tables = seven a.inputs.now a.latches.now a.outputs.now a.gates.now a.resets.now a.bads.now a.constraints.now in
    let e : ReadEntry = record { file = a.file.now; tables = t; scratch = a.scratch.now } in
    let t' : Tables = seven c.load.new.inputs c.load.new.latches c.load.new.outputs c.load.new.gates
    c.load.new.resets c.load.new.bads c.load.new.constraints in
    let x : LoadExit = record { answer = c.load.result; tables = t'; scratch = c.load.new.scratch } in
    let said = c.load.ensures in
    read_by a.version e x said _ _ (c.tell.ensures ∙ ap loaded_values (sym c.in-Ok.is)) (part-from _ a.file.now
    ∙ ap (tail_of a.file.now) (sym c.in-Ok.is))

pub shape_of-inputs-in-Err : goal.shape_of-inputs-in-Err
shape_of-inputs-in-Err c = c.load.auto.inputs

pub shape_of-latches-in-Err : goal.shape_of-latches-in-Err
shape_of-latches-in-Err c = c.load.auto.latches

pub shape_of-outputs-in-Err : goal.shape_of-outputs-in-Err
shape_of-outputs-in-Err c = c.load.auto.outputs

pub shape_of-gates-in-Err : goal.shape_of-gates-in-Err
shape_of-gates-in-Err c = c.load.auto.gates

pub shape_of-resets-in-Err : goal.shape_of-resets-in-Err
shape_of-resets-in-Err c = c.load.auto.resets

pub shape_of-bads-in-Err : goal.shape_of-bads-in-Err
shape_of-bads-in-Err c = c.load.auto.bads

pub shape_of-constraints-in-Err : goal.shape_of-constraints-in-Err
shape_of-constraints-in-Err c = c.load.auto.constraints

pub shape_of-scratch-in-Err : goal.shape_of-scratch-in-Err
shape_of-scratch-in-Err c = c.load.auto.scratch

pub returns-in-Err : goal.returns-in-Err
returns-in-Err c =
    let a = c.args in
    let t : Tables = seven a.inputs.now a.latches.now a.outputs.now a.gates.now a.resets.now a.bads.now a.constraints.now in
    let e : ReadEntry = record { file = a.file.now; tables = t; scratch = a.scratch.now } in
    let t' : Tables = seven c.load.new.inputs c.load.new.latches c.load.new.outputs c.load.new.gates
    c.load.new.resets c.load.new.bads c.load.new.constraints in
    let x : LoadExit = record { answer = c.load.result; tables = t'; scratch = c.load.new.scratch } in
    let said = c.load.ensures in
    let refused = c.in-Err.is in
    read_by a.version e x said _ _
    (c.tell-in-Err.ensures ∙ (refusal-told c.told_number.ensures
    c.told_place.ensures c.no_counts.ensures ∙ ap loaded_values (sym refused)))
    (part_none a.file.now ∙ ap (tail_of a.file.now) (sym refused))
