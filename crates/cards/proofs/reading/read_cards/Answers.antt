-- Cleared, filled, and cleared again after a refusal.
use mathlib.Core.Path.{ap, ◌∙◌}
use Rattle.plan.specs.Circuit.{Tables, seven}
use Rattle.plan.specs.Outcome.{ReadEntry}
use Rattle.read.proofs.Loads.{all_same}
use Rattle.cards.proofs.reading.Loading.{stays-cleared, load-accepted, load-refused}
use Rattle.cards.proofs.reading.read_cards.Goals as goal

pub take_cards-read-requires : goal.take_cards-read-requires
take_cards-read-requires c =
    stays-cleared c.args.resets.now c.clear_all.new.resets (ap (λ (t : Tables). t.resets) c.clear_all.ensures)

pub returns-in-Err : goal.returns-in-Err
returns-in-Err c =
    let a = c.args in
    let t : Tables = seven a.inputs.now a.latches.now a.outputs.now a.gates.now a.resets.now a.bads.now a.constraints.now in
    let e : ReadEntry = record { file = a.file.now; tables = t; scratch = a.scratch.now } in
    let T : Tables = seven c.clear_all.new.inputs c.clear_all.new.latches c.clear_all.new.outputs c.clear_all.new.gates c.clear_all.new.resets
    c.clear_all.new.bads c.clear_all.new.constraints in
    let t' : Tables = seven c.take_cards-read.new.inputs c.take_cards-read.new.latches c.take_cards-read.new.outputs c.take_cards-read.new.gates
    c.take_cards-read.new.resets c.take_cards-read.new.bads c.take_cards-read.new.constraints in
    let back = all_same t' t (c.take_cards-read.auto.inputs ∙ c.clear_all.auto.inputs) (c.take_cards-read.auto.latches ∙ c.clear_all.auto.latches) (c.take_cards-read.auto.outputs
    ∙ c.clear_all.auto.outputs) (c.take_cards-read.auto.gates ∙ c.clear_all.auto.gates)
    (c.take_cards-read.auto.resets ∙ c.clear_all.auto.resets) (c.take_cards-read.auto.bads
    ∙ c.clear_all.auto.bads) (c.take_cards-read.auto.constraints ∙ c.clear_all.auto.constraints) in
    load-refused e t' _ T _ c.clear_all.ensures c.clear.auto.table c.take_cards-read.ensures _ c.clear.ensures _ c.in-Err.is _
    (c.clear_all-in-Err.ensures ∙ back)

pub returns : goal.returns
returns c =
    let a = c.args in
    let t : Tables = seven a.inputs.now a.latches.now a.outputs.now a.gates.now a.resets.now a.bads.now a.constraints.now in
    let e : ReadEntry = record { file = a.file.now; tables = t; scratch = a.scratch.now } in
    let T : Tables = seven c.clear_all.new.inputs c.clear_all.new.latches c.clear_all.new.outputs c.clear_all.new.gates c.clear_all.new.resets
    c.clear_all.new.bads c.clear_all.new.constraints in
    let t' : Tables = seven c.take_cards-read.new.inputs c.take_cards-read.new.latches c.take_cards-read.new.outputs c.take_cards-read.new.gates
    c.take_cards-read.new.resets c.take_cards-read.new.bads c.take_cards-read.new.constraints in
    load-accepted e t' _ T _ c.clear_all.ensures c.clear.auto.table c.take_cards-read.ensures _ c.clear.ensures _ _ c.in_default.is
