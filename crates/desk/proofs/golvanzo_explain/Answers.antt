-- What made an output 0 or 1 in a step of given tables, which are in binary order: number (0: explained) and place. Each answer is given by
-- `explain-told`.
use Rattle.plan.specs.Circuit.{seven}
use Rattle.plan.specs.Header.{counts_from}
use Rattle.plan.specs.Given.{Given}
use Rattle.judge.specs.Judged.{given_at}
use Rattle.plan.specs.Explain.{ExplainExit}
use Rattle.desk.proofs.Answers.{explain-told}
use Rattle.desk.proofs.golvanzo_explain.Goals as goal

pub returns : goal.returns
returns c =
    let a = c.args in
    let g : Given = given_at (counts_from a.counts.now) (seven a.inputs.now a.latches.now a.outputs.now a.gates.now
    a.resets.now a.bads.now a.constraints.now) a.scratch.now in
    let x : ExplainExit = record {
      answer = c.explain-r.result;
      scratch = c.explain-r.new.scratch;
      marks = c.explain-r.new.marks;
    } in
    explain-told g a.state.now a.ins.now a.output a.marks.now _ x _ c.counts-n.ensures c.explain-r.ensures
    c.stepped.ensures
