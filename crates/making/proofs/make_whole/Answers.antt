-- The answer of the file, and then all tables zero: each is as long as it was, and was cleared.
use mathlib.Core.Path.{◌∙◌}
use Rattle.plan.specs.Circuit.{seven}
use Rattle.plan.specs.Whole.{WholeEntry, input_of}
use Rattle.read.proofs.Loads.{same-cleared, all_same}
use Rattle.making.specs.Wholes.{made_file}
use Rattle.making.proofs.Files.{all-zero}
use Rattle.making.proofs.make_whole.Goals as goal

pub returns : goal.returns
returns c =
    let a = c.args in
    let read =
    seven a.inputs.now a.latches.now a.outputs.now a.gates.now a.resets.now a.bads.now a.constraints.now in
    let made =
    seven a.made_inputs.now a.made_latches.now a.made_outputs.now a.made_gates.now a.made_resets.now a.made_bads.now
    a.made_constraints.now in
    let w : WholeEntry = record {
      plan = input_of a.readable a.file.now;
      read = read;
      made = made;
      scratch = a.scratch.now;
      out = a.out.now;
    } in
    let read' =
    seven c.make_file-answer.new.inputs c.make_file-answer.new.latches c.make_file-answer.new.outputs c.make_file-answer.new.gates c.make_file-answer.new.resets
    c.make_file-answer.new.bads c.make_file-answer.new.constraints in
    let made' =
    seven c.make_file-answer.new.made_inputs c.make_file-answer.new.made_latches c.make_file-answer.new.made_outputs
    c.make_file-answer.new.made_gates c.make_file-answer.new.made_resets
    c.make_file-answer.new.made_bads c.make_file-answer.new.made_constraints in
    all-zero w (made_file a.reduced a.dropped w) _ c.make_file-answer.ensures _ _ _
    (c.clear_all.ensures
    ∙ all_same read' read c.make_file-answer.auto.inputs c.make_file-answer.auto.latches c.make_file-answer.auto.outputs c.make_file-answer.auto.gates
    c.make_file-answer.auto.resets c.make_file-answer.auto.bads c.make_file-answer.auto.constraints)
    (c.clear_all-2.ensures
    ∙ all_same made' made c.make_file-answer.auto.made_inputs c.make_file-answer.auto.made_latches
    c.make_file-answer.auto.made_outputs c.make_file-answer.auto.made_gates
    c.make_file-answer.auto.made_resets c.make_file-answer.auto.made_bads
    c.make_file-answer.auto.made_constraints)
    (c.clear.ensures ∙ same-cleared c.make_file-answer.new.scratch a.scratch.now
    c.make_file-answer.auto.scratch)
