-- All tables are cleared at the end.
use mathlib.Core.Path.{◌∙◌}
use Rattle.plan.specs.Circuit.{Tables, seven}
use Rattle.plan.specs.Outcome.{WriteExit}
use Rattle.plan.specs.Whole.{input_of}
use Rattle.read.proofs.Loads.{same-cleared, all_same}
use Rattle.plan.specs.Cards.{CardEntry, filed_cards}
use Rattle.whole.proofs.filing.Moving.{all-zero}
use Rattle.whole.proofs.filing.file_whole.Goals as goal

pub returns : goal.returns
returns c =
    let a = c.args in
    let t : Tables = seven a.inputs.now a.latches.now a.outputs.now a.gates.now a.resets.now a.bads.now a.constraints.now in
    let w : CardEntry = record { plan = input_of a.readable a.file.now; tables = t; scratch = a.scratch.now; out = a.out.now } in
    let t' : Tables = seven c.file_cards-answer.new.inputs c.file_cards-answer.new.latches c.file_cards-answer.new.outputs c.file_cards-answer.new.gates
    c.file_cards-answer.new.resets c.file_cards-answer.new.bads c.file_cards-answer.new.constraints in
    let x : WriteExit = record { answer = c.file_cards-answer.result; out = c.file_cards-answer.new.out } in
    let back = all_same t' t c.file_cards-answer.auto.inputs c.file_cards-answer.auto.latches c.file_cards-answer.auto.outputs c.file_cards-answer.auto.gates
    c.file_cards-answer.auto.resets c.file_cards-answer.auto.bads c.file_cards-answer.auto.constraints in
    all-zero w (filed_cards w) x c.file_cards-answer.ensures _ _ (c.clear_all.ensures ∙ back)
    (c.clear.ensures ∙ same-cleared c.file_cards-answer.new.scratch a.scratch.now c.file_cards-answer.auto.scratch)
