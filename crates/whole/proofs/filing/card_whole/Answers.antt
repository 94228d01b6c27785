-- All tables are cleared at the end.
use mathlib.Core.Path.{◌∙◌}
use Rattle.plan.specs.Circuit.{Tables, seven}
use Rattle.plan.specs.Outcome.{WriteExit}
use Rattle.plan.specs.Whole.{input_of}
use Rattle.read.proofs.Loads.{same-cleared, all_same}
use Rattle.plan.specs.Cards.{CardEntry, carded_file}
use Rattle.whole.proofs.filing.Moving.{all-zero}
use Rattle.whole.proofs.filing.card_whole.Goals as goal

pub returns : goal.returns
returns c =
    let a = c.args in
    let t : Tables = seven a.inputs.now a.latches.now a.outputs.now a.gates.now a.resets.now a.bads.now a.constraints.now in
    let w : CardEntry = record { plan = input_of a.readable a.file.now; tables = t; scratch = a.scratch.now; out = a.out.now } in
    let t' : Tables = seven c.card_file-answer.new.inputs c.card_file-answer.new.latches c.card_file-answer.new.outputs c.card_file-answer.new.gates
    c.card_file-answer.new.resets c.card_file-answer.new.bads c.card_file-answer.new.constraints in
    let x : WriteExit = record { answer = c.card_file-answer.result; out = c.card_file-answer.new.out } in
    let back = all_same t' t c.card_file-answer.auto.inputs c.card_file-answer.auto.latches c.card_file-answer.auto.outputs c.card_file-answer.auto.gates
    c.card_file-answer.auto.resets c.card_file-answer.auto.bads c.card_file-answer.auto.constraints in
    all-zero w (carded_file w) x c.card_file-answer.ensures _ _ (c.clear_all.ensures ∙ back)
    (c.clear.ensures ∙ same-cleared c.card_file-answer.new.scratch a.scratch.now c.card_file-answer.auto.scratch)
