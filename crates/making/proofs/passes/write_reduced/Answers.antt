-- The circuit is reduced, which is not refused. What a reduction leaves is in binary order and stands ready, so it is written, or handed on
-- to be freed of unused gates, back into the tables it came from.
use mathlib.Core.Path.{sym, ap, ◌∙◌}
use mathlib.Core.Bool.{Bool}
use mathlib.Core.List.{◌++◌}
use Rattle.plan.specs.Circuit.{Circuit, Tables, seven}
use Rattle.plan.specs.Binary.{binary_of}
use Rattle.plan.specs.Given.{Given, given_circuit}
use Rattle.plan.specs.Drop.{drop_unused}
use Rattle.plan.specs.Outcome.{put_bytes}
use Rattle.write.specs.Judged.{given_in}
use Rattle.whole.proofs.Writes.{not-refused, made-put, made-is, made-in-order}
use Rattle.making.specs.Passes.{lessened}
use Rattle.making.proofs.Smaller.{reduces, reduced-ready}
use Rattle.making.proofs.passes.write_reduced.Goals as goal

pub write_dropped-requires : goal.write_dropped-requires
write_dropped-requires c =
    let circuit : Given =
    let a = c.args in
    given_in a.n a.inputs.now a.latches.now a.outputs.now a.gates.now a.resets.now a.bads.now a.constraints.now a.scratch.now in
    let into : Tables =
    let a = c.args in
    seven a.to_inputs.now a.to_latches.now a.to_outputs.now a.to_gates.now a.to_resets.now a.to_bads.now a.to_constraints.now in
    let a = c.args in
    let m = c.in_ok-m.was in
    record { stands_ready = reduced-ready (circuit) (into) a.tail.now c.requires.stands_ready c.requires.in_order _ c.reduce.ensures _ m; in_order = made-in-order _ _ a.tail.now (reduces (circuit) (into) a.tail.now c.requires.stands_ready c.requires.in_order) _ c.reduce.ensures _ m }

pub returns-then-dropped : goal.returns-then-dropped
returns-then-dropped c =
    let circuit : Given =
    let a = c.args in
    given_in a.n a.inputs.now a.latches.now a.outputs.now a.gates.now a.resets.now a.bads.now a.constraints.now a.scratch.now in
    let into : Tables =
    let a = c.args in
    seven a.to_inputs.now a.to_latches.now a.to_outputs.now a.to_gates.now a.to_resets.now a.to_bads.now a.to_constraints.now in
    let a = c.args in
    c.write_dropped.ensures
    ∙ (ap (λ (d : Circuit). put_bytes a.out.now 0 (binary_of (drop_unused d) ++ a.tail.now))
    (made-is _ _ a.tail.now (reduces (circuit) (into) a.tail.now c.requires.stands_ready c.requires.in_order) _ c.reduce.ensures _ c.in_ok-m.was)
    ∙ ap (λ (b : Bool). put_bytes a.out.now 0 (binary_of (lessened b (given_circuit (circuit))) ++ a.tail.now)) (sym c.if-dropped.true))

pub returns-in_err-m : goal.returns-in_err-m
returns-in_err-m c =
    let circuit : Given =
    let a = c.args in
    given_in a.n a.inputs.now a.latches.now a.outputs.now a.gates.now a.resets.now a.bads.now a.constraints.now a.scratch.now in
    let into : Tables =
    let a = c.args in
    seven a.to_inputs.now a.to_latches.now a.to_outputs.now a.to_gates.now a.to_resets.now a.to_bads.now a.to_constraints.now in
    let a = c.args in
    absurd (not-refused _ _ a.tail.now (reduces (circuit) (into) a.tail.now c.requires.stands_ready c.requires.in_order) _ c.reduce.ensures _ c.in_err-m.was)

pub returns : goal.returns
returns c =
    let circuit : Given =
    let a = c.args in
    given_in a.n a.inputs.now a.latches.now a.outputs.now a.gates.now a.resets.now a.bads.now a.constraints.now a.scratch.now in
    let into : Tables =
    let a = c.args in
    seven a.to_inputs.now a.to_latches.now a.to_outputs.now a.to_gates.now a.to_resets.now a.to_bads.now a.to_constraints.now in
    let a = c.args in
    made-put _ _ a.tail.now (reduces (circuit) (into) a.tail.now c.requires.stands_ready c.requires.in_order) _ c.reduce.ensures _ c.in_ok-m.was
    a.out.now _ c.write_binary.ensures
    ∙ ap (λ (b : Bool). put_bytes a.out.now 0 (binary_of (lessened b (given_circuit (circuit))) ++ a.tail.now)) (sym c.if-dropped.false)
