-- Reads a file by a version of the report into tables 1 to 4 and 7 to 9, whatever they hold on entry: the counts and where the tail starts, or a
-- refusal. The answers are given by `all_same`, `load-refused` and `same-cleared`.
use Prim.Native.Nat.{ℕ}
use mathlib.Core.Path.{◌≡◌, ap, ◌∙◌}
use mathlib.Core.List.{List}
use lib.ListN.{length, get_or}
use Rattle.plan.specs.Circuit.{Tables, seven}
use Rattle.plan.specs.Outcome.{ReadEntry}
use Rattle.laws.proofs.Marks.{zeros}
use Rattle.read.proofs.Loads.{same-cleared, all_same, load-accepted, load-refused}
use Rattle.read.proofs.load.Goals as goal

pub fill-read-requires : goal.fill-read-requires
fill-read-requires c = λ i. ap (λ (l : List ℕ). get_or l i 0) c.clear.ensures ∙ zeros (length c.args.scratch.now) i

pub shape_of-inputs-in-Err : goal.shape_of-inputs-in-Err
shape_of-inputs-in-Err c =
    c.clear_all-in-Err.auto.inputs ∙ (c.fill-read.auto.inputs ∙ c.clear_all.auto.inputs)

pub shape_of-latches-in-Err : goal.shape_of-latches-in-Err
shape_of-latches-in-Err c =
    c.clear_all-in-Err.auto.latches ∙ (c.fill-read.auto.latches ∙ c.clear_all.auto.latches)

pub shape_of-outputs-in-Err : goal.shape_of-outputs-in-Err
shape_of-outputs-in-Err c =
    c.clear_all-in-Err.auto.outputs ∙ (c.fill-read.auto.outputs ∙ c.clear_all.auto.outputs)

pub shape_of-gates-in-Err : goal.shape_of-gates-in-Err
shape_of-gates-in-Err c = c.clear_all-in-Err.auto.gates ∙ (c.fill-read.auto.gates ∙ c.clear_all.auto.gates)

pub shape_of-resets-in-Err : goal.shape_of-resets-in-Err
shape_of-resets-in-Err c =
    c.clear_all-in-Err.auto.resets ∙ (c.fill-read.auto.resets ∙ c.clear_all.auto.resets)

pub shape_of-bads-in-Err : goal.shape_of-bads-in-Err
shape_of-bads-in-Err c = c.clear_all-in-Err.auto.bads ∙ (c.fill-read.auto.bads ∙ c.clear_all.auto.bads)

pub shape_of-constraints-in-Err : goal.shape_of-constraints-in-Err
shape_of-constraints-in-Err c =
    c.clear_all-in-Err.auto.constraints ∙ (c.fill-read.auto.constraints ∙ c.clear_all.auto.constraints)

pub shape_of-scratch-in-Err : goal.shape_of-scratch-in-Err
shape_of-scratch-in-Err c = c.clear-2.auto.table ∙ (c.fill-read.auto.scratch ∙ c.clear.auto.table)

pub returns-in-Err : goal.returns-in-Err
returns-in-Err c =
    let a = c.args in
    let t : Tables = seven a.inputs.now a.latches.now a.outputs.now a.gates.now a.resets.now a.bads.now a.constraints.now in
    let e : ReadEntry = record { file = a.file.now; tables = t; scratch = a.scratch.now } in
    let T : Tables = seven c.clear_all.new.inputs c.clear_all.new.latches c.clear_all.new.outputs c.clear_all.new.gates c.clear_all.new.resets
    c.clear_all.new.bads c.clear_all.new.constraints in
    let t' : Tables = seven c.fill-read.new.inputs c.fill-read.new.latches c.fill-read.new.outputs c.fill-read.new.gates
    c.fill-read.new.resets c.fill-read.new.bads c.fill-read.new.constraints in
    let S = c.clear.new.table in
    let wide : length c.fill-read.new.scratch ≡ length a.scratch.now = c.fill-read.auto.scratch ∙ c.clear.auto.table in
    let back = all_same t' e.tables (c.fill-read.auto.inputs ∙ c.clear_all.auto.inputs) (c.fill-read.auto.latches ∙ c.clear_all.auto.latches) (c.fill-read.auto.outputs
    ∙ c.clear_all.auto.outputs) (c.fill-read.auto.gates ∙ c.clear_all.auto.gates) (c.fill-read.auto.resets ∙ c.clear_all.auto.resets)
    (c.fill-read.auto.bads ∙ c.clear_all.auto.bads) (c.fill-read.auto.constraints ∙ c.clear_all.auto.constraints) in
    load-refused a.version e T t' S _ c.clear_all.ensures c.clear.ensures c.fill-read.ensures _
    (c.clear-2.ensures ∙ same-cleared c.fill-read.new.scratch a.scratch.now wide) _
    c.in-Err.is _ (c.clear_all-in-Err.ensures ∙ back)

pub shape_of-inputs : goal.shape_of-inputs
shape_of-inputs c = c.fill-read.auto.inputs ∙ c.clear_all.auto.inputs

pub shape_of-latches : goal.shape_of-latches
shape_of-latches c = c.fill-read.auto.latches ∙ c.clear_all.auto.latches

pub shape_of-outputs : goal.shape_of-outputs
shape_of-outputs c = c.fill-read.auto.outputs ∙ c.clear_all.auto.outputs

pub shape_of-gates : goal.shape_of-gates
shape_of-gates c = c.fill-read.auto.gates ∙ c.clear_all.auto.gates

pub shape_of-resets : goal.shape_of-resets
shape_of-resets c = c.fill-read.auto.resets ∙ c.clear_all.auto.resets

pub shape_of-bads : goal.shape_of-bads
shape_of-bads c = c.fill-read.auto.bads ∙ c.clear_all.auto.bads

pub shape_of-constraints : goal.shape_of-constraints
shape_of-constraints c = c.fill-read.auto.constraints ∙ c.clear_all.auto.constraints

pub shape_of-scratch : goal.shape_of-scratch
shape_of-scratch c = c.clear-2.auto.table ∙ (c.fill-read.auto.scratch ∙ c.clear.auto.table)

pub returns : goal.returns
returns c =
    let a = c.args in
    let t : Tables = seven a.inputs.now a.latches.now a.outputs.now a.gates.now a.resets.now a.bads.now a.constraints.now in
    let e : ReadEntry = record { file = a.file.now; tables = t; scratch = a.scratch.now } in
    let T : Tables = seven c.clear_all.new.inputs c.clear_all.new.latches c.clear_all.new.outputs c.clear_all.new.gates c.clear_all.new.resets
    c.clear_all.new.bads c.clear_all.new.constraints in
    let t' : Tables = seven c.fill-read.new.inputs c.fill-read.new.latches c.fill-read.new.outputs c.fill-read.new.gates
    c.fill-read.new.resets c.fill-read.new.bads c.fill-read.new.constraints in
    let S = c.clear.new.table in
    let wide : length c.fill-read.new.scratch ≡ length a.scratch.now = c.fill-read.auto.scratch ∙ c.clear.auto.table in
    load-accepted a.version e T t' S _ c.clear_all.ensures c.clear.ensures c.fill-read.ensures _
    (c.clear-2.ensures ∙ same-cleared c.fill-read.new.scratch a.scratch.now wide) _ _ c.in_default.is
