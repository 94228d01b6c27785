-- Whether given tables hold a circuit that a reader could have accepted: number (0: they do) and place. Each answer is given by `check-told`.
use Rattle.plan.specs.Circuit.{seven}
use Rattle.plan.specs.Header.{counts_from}
use Rattle.plan.specs.Given.{Given}
use Rattle.judge.specs.Judged.{given_at}
use Rattle.desk.proofs.Answers.{check-told}
use Rattle.desk.proofs.golvanzo_check.Goals as goal

pub returns : goal.returns
returns c =
    let a = c.args in
    let g : Given = given_at (counts_from a.counts.now) (seven a.inputs.now a.latches.now a.outputs.now a.gates.now
    a.resets.now a.bads.now a.constraints.now) a.scratch.now in
    check-told g _ (record { answer = c.check-r.result; scratch = c.check-r.new.scratch }) _ c.counts-n.ensures c.check-r.ensures
    c.checked.ensures
