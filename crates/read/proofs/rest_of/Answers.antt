-- The answers are given by `as-binary` and `as-text`.
use mathlib.Core.Path.{ap}
use Rattle.plan.specs.Circuit.{Tables, seven}
use Rattle.plan.specs.Header.{text, binary}
use Rattle.plan.specs.Outcome.{form_of}
use Rattle.read.proofs.Fills.{as-binary, as-text, room_of, binary-sum, text-sum}
use Rattle.read.proofs.rest_of.Goals as goal

pub rest_of_binary-requires : goal.rest_of_binary-requires
rest_of_binary-requires c =
    let a = c.args in
    let is = c.if-binary.true in
    record { room = room_of binary a.n _ _ a.binary (ap form_of is) c.requires.room; a_value = binary-sum a.n a.binary is c.requires.n_value }

pub shape_of-inputs-then-binary : goal.shape_of-inputs-then-binary
shape_of-inputs-then-binary c = c.rest_of_binary.auto.inputs

pub shape_of-latches-then-binary : goal.shape_of-latches-then-binary
shape_of-latches-then-binary c = c.rest_of_binary.auto.latches

pub shape_of-outputs-then-binary : goal.shape_of-outputs-then-binary
shape_of-outputs-then-binary c = c.rest_of_binary.auto.outputs

pub shape_of-gates-then-binary : goal.shape_of-gates-then-binary
shape_of-gates-then-binary c = c.rest_of_binary.auto.gates

pub shape_of-resets-then-binary : goal.shape_of-resets-then-binary
shape_of-resets-then-binary c = c.rest_of_binary.auto.resets

pub shape_of-bads-then-binary : goal.shape_of-bads-then-binary
shape_of-bads-then-binary c = c.rest_of_binary.auto.bads

pub shape_of-constraints-then-binary : goal.shape_of-constraints-then-binary
shape_of-constraints-then-binary c = c.rest_of_binary.auto.constraints

pub shape_of-scratch-then-binary : goal.shape_of-scratch-then-binary
shape_of-scratch-then-binary c = c.rest_of_binary.auto.scratch

pub returns-then-binary : goal.returns-then-binary
returns-then-binary c =
    let a = c.args in
    let t : Tables = seven a.inputs.now a.latches.now a.outputs.now a.gates.now a.resets.now a.bads.now a.constraints.now in
    let t' : Tables = seven c.rest_of_binary.new.inputs c.rest_of_binary.new.latches c.rest_of_binary.new.outputs c.rest_of_binary.new.gates
    c.rest_of_binary.new.resets c.rest_of_binary.new.bads c.rest_of_binary.new.constraints in
    as-binary a.version a.file.now a.n a.at t t' _ a.binary c.if-binary.true c.rest_of_binary.ensures

pub rest_of_text-requires : goal.rest_of_text-requires
rest_of_text-requires c =
    let a = c.args in
    let is = c.if-binary.false in
    record { room = room_of text a.n _ _ a.binary (ap form_of is) c.requires.room; a_bound = text-sum a.n a.binary is c.requires.n_value }

pub shape_of-inputs : goal.shape_of-inputs
shape_of-inputs c = c.rest_of_text.auto.inputs

pub shape_of-latches : goal.shape_of-latches
shape_of-latches c = c.rest_of_text.auto.latches

pub shape_of-outputs : goal.shape_of-outputs
shape_of-outputs c = c.rest_of_text.auto.outputs

pub shape_of-gates : goal.shape_of-gates
shape_of-gates c = c.rest_of_text.auto.gates

pub shape_of-resets : goal.shape_of-resets
shape_of-resets c = c.rest_of_text.auto.resets

pub shape_of-bads : goal.shape_of-bads
shape_of-bads c = c.rest_of_text.auto.bads

pub shape_of-constraints : goal.shape_of-constraints
shape_of-constraints c = c.rest_of_text.auto.constraints

pub shape_of-scratch : goal.shape_of-scratch
shape_of-scratch c = c.rest_of_text.auto.scratch

pub returns : goal.returns
returns c =
    let a = c.args in
    let t : Tables = seven a.inputs.now a.latches.now a.outputs.now a.gates.now a.resets.now a.bads.now a.constraints.now in
    let t' : Tables = seven c.rest_of_text.new.inputs c.rest_of_text.new.latches c.rest_of_text.new.outputs c.rest_of_text.new.gates
    c.rest_of_text.new.resets c.rest_of_text.new.bads c.rest_of_text.new.constraints in
    as-text a.version a.file.now a.n a.at t t' _ a.binary c.if-binary.false c.rest_of_text.ensures
