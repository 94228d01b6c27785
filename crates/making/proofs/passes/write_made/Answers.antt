-- A circuit that was read is written as text; or it is converted, which is not refused, and what a conversion leaves stands ready: it is written
-- as binary, or handed on to be reduced, back into the tables it was read into.
use mathlib.Core.Path.{sym, ap, ◌∙◌}
use mathlib.Core.Bool.{Bool, false}
use mathlib.Core.List.{◌++◌}
use Rattle.plan.specs.Circuit.{Circuit, Tables, seven}
use Rattle.plan.specs.Binary.{binary_of}
use Rattle.plan.specs.Given.{Given, given_circuit}
use Rattle.plan.specs.Outcome.{put_bytes}
use Rattle.write.specs.Judged.{given_in}
use Rattle.whole.proofs.Writes.{text-put, not-refused, made-put, made-is, made-in-order, converts, converted-ready}
use Rattle.making.specs.Passes.{lessened, bytes_of}
use Rattle.making.proofs.passes.write_made.Goals as goal

pub returns-then-text : goal.returns-then-text
returns-then-text c =
    let circuit : Given =
    let a = c.args in
    given_in a.n a.inputs.now a.latches.now a.outputs.now a.gates.now a.resets.now a.bads.now a.constraints.now a.scratch.now in
    let a = c.args in
    text-put (circuit) a.tail.now a.out.now c.requires.fine c.requires.tail-ok _ c.write_text.ensures
    ∙ ap (λ (b : Bool). put_bytes a.out.now 0 (bytes_of b a.reduced a.dropped (given_circuit (circuit)) ++ a.tail.now)) (sym c.if-text.true)

pub write_reduced-requires : goal.write_reduced-requires
write_reduced-requires c =
    let circuit : Given =
    let a = c.args in
    given_in a.n a.inputs.now a.latches.now a.outputs.now a.gates.now a.resets.now a.bads.now a.constraints.now a.scratch.now in
    let into : Tables =
    let a = c.args in
    seven a.to_inputs.now a.to_latches.now a.to_outputs.now a.to_gates.now a.to_resets.now a.to_bads.now a.to_constraints.now in
    let a = c.args in
    let m = c.in_ok-m.was in
    record { stands_ready = converted-ready (circuit) (into) a.tail.now c.requires _ c.convert.ensures _ m; in_order = made-in-order _ _ a.tail.now (converts (circuit) (into) a.tail.now c.requires) _ c.convert.ensures _ m }

pub returns-then-reduced : goal.returns-then-reduced
returns-then-reduced c =
    let circuit : Given =
    let a = c.args in
    given_in a.n a.inputs.now a.latches.now a.outputs.now a.gates.now a.resets.now a.bads.now a.constraints.now a.scratch.now in
    let into : Tables =
    let a = c.args in
    seven a.to_inputs.now a.to_latches.now a.to_outputs.now a.to_gates.now a.to_resets.now a.to_bads.now a.to_constraints.now in
    let a = c.args in
    c.write_reduced.ensures
    ∙ (ap (λ (d : Circuit). put_bytes a.out.now 0 (binary_of (lessened a.dropped d) ++ a.tail.now))
    (made-is _ _ a.tail.now (converts (circuit) (into) a.tail.now c.requires) _ c.convert.ensures _
    c.in_ok-m.was)
    ∙ (ap (λ (b : Bool). put_bytes a.out.now 0 (bytes_of false b a.dropped (given_circuit (circuit)) ++ a.tail.now)) (sym c.if-reduced.true)
    ∙ ap (λ (b : Bool). put_bytes a.out.now 0 (bytes_of b a.reduced a.dropped (given_circuit (circuit)) ++ a.tail.now)) (sym c.if-text.false)))

pub returns-in_err-m : goal.returns-in_err-m
returns-in_err-m c =
    let circuit : Given =
    let a = c.args in
    given_in a.n a.inputs.now a.latches.now a.outputs.now a.gates.now a.resets.now a.bads.now a.constraints.now a.scratch.now in
    let into : Tables =
    let a = c.args in
    seven a.to_inputs.now a.to_latches.now a.to_outputs.now a.to_gates.now a.to_resets.now a.to_bads.now a.to_constraints.now in
    let a = c.args in
    absurd (not-refused _ _ a.tail.now (converts (circuit) (into) a.tail.now c.requires) _ c.convert.ensures _ c.in_err-m.was)

pub returns : goal.returns
returns c =
    let circuit : Given =
    let a = c.args in
    given_in a.n a.inputs.now a.latches.now a.outputs.now a.gates.now a.resets.now a.bads.now a.constraints.now a.scratch.now in
    let into : Tables =
    let a = c.args in
    seven a.to_inputs.now a.to_latches.now a.to_outputs.now a.to_gates.now a.to_resets.now a.to_bads.now a.to_constraints.now in
    let a = c.args in
    made-put _ _ a.tail.now (converts (circuit) (into) a.tail.now c.requires) _ c.convert.ensures _
    c.in_ok-m.was
    a.out.now _ c.write_binary.ensures
    ∙ (ap (λ (b : Bool). put_bytes a.out.now 0 (bytes_of false b a.dropped (given_circuit (circuit)) ++ a.tail.now)) (sym c.if-reduced.false)
    ∙ ap (λ (b : Bool). put_bytes a.out.now 0 (bytes_of b a.reduced a.dropped (given_circuit (circuit)) ++ a.tail.now)) (sym c.if-text.false))
