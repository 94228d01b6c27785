-- The same by the plain engine, for at most 24 gates. Each answer is given by `step-told`.
use Rattle.plan.specs.Circuit.{seven}
use Rattle.plan.specs.Header.{counts_from}
use Rattle.plan.specs.Given.{Given}
use Rattle.judge.specs.Judged.{given_at}
use Rattle.plan.specs.Outcome.{StepExit}
use Rattle.plan.specs.Plain.{plain_step}
use Rattle.desk.proofs.Answers.{step-told}
use Rattle.desk.proofs.golvanzo_step_plain.Goals as goal

pub returns : goal.returns
returns c =
    let a = c.args in
    let g : Given = given_at (counts_from a.counts.now) (seven a.inputs.now a.latches.now a.outputs.now a.gates.now
    a.resets.now a.bads.now a.constraints.now) a.scratch.now in
    let x : StepExit = record {
      answer = c.step_plain-r.result;
      scratch = c.step_plain-r.new.scratch;
      state = c.step_plain-r.new.state;
      outputs = c.step_plain-r.new.outs;
    } in
    step-told plain_step g a.state.now a.ins.now a.outs.now _ x _ c.counts-n.ensures c.step_plain-r.ensures c.stepped.ensures
