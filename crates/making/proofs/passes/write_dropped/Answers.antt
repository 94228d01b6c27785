-- Unused gates are dropped, which is not refused, and what is left is written as binary: `drops`, and the law of a making that passes.
use Rattle.plan.specs.Circuit.{Tables, seven}
use Rattle.plan.specs.Given.{Given}
use Rattle.write.specs.Judged.{given_in}
use Rattle.whole.proofs.Writes.{not-refused, made-put}
use Rattle.making.proofs.Smaller.{drops}
use Rattle.making.proofs.passes.write_dropped.Goals as goal

pub returns-in_err-m : goal.returns-in_err-m
returns-in_err-m c =
    let circuit : Given =
    let a = c.args in
    given_in a.n a.inputs.now a.latches.now a.outputs.now a.gates.now a.resets.now a.bads.now a.constraints.now a.scratch.now in
    let into : Tables =
    let a = c.args in
    seven a.to_inputs.now a.to_latches.now a.to_outputs.now a.to_gates.now a.to_resets.now a.to_bads.now a.to_constraints.now in
    let a = c.args in
    absurd (not-refused _ _ a.tail.now (drops (circuit) (into) a.tail.now c.requires.stands_ready c.requires.in_order) _ c.drop_unused.ensures _ c.in_err-m.was)

pub returns : goal.returns
returns c =
    let circuit : Given =
    let a = c.args in
    given_in a.n a.inputs.now a.latches.now a.outputs.now a.gates.now a.resets.now a.bads.now a.constraints.now a.scratch.now in
    let into : Tables =
    let a = c.args in
    seven a.to_inputs.now a.to_latches.now a.to_outputs.now a.to_gates.now a.to_resets.now a.to_bads.now a.to_constraints.now in
    let a = c.args in
    made-put _ _ a.tail.now (drops (circuit) (into) a.tail.now c.requires.stands_ready c.requires.in_order) _ c.drop_unused.ensures _ c.in_ok-m.was
    a.out.now _ c.write_binary.ensures
