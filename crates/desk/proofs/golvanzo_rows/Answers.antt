-- Up to 64 rows, each stepped once from the resets: number (0: stepped) and place. Each answer is given by `rows_told`.
use Rattle.plan.specs.Circuit.{seven}
use Rattle.plan.specs.Header.{counts_from}
use Rattle.plan.specs.Given.{Given}
use Rattle.judge.specs.Judged.{given_at}
use Rattle.plan.specs.Rows.{RowsExit}
use Rattle.desk.proofs.RowsAnswers.{rows_told}
use Rattle.desk.proofs.golvanzo_rows.Goals as goal

pub returns : goal.returns
returns c =
    let a = c.args in
    let g : Given = given_at (counts_from a.counts.now) (seven a.inputs.now a.latches.now a.outputs.now a.gates.now
    a.resets.now a.bads.now a.constraints.now) a.scratch.now in
    let x : RowsExit = record {
      answer = c.step_rows-r.result;
      scratch = c.step_rows-r.new.scratch;
      nexts = c.step_rows-r.new.nexts;
      outputs = c.step_rows-r.new.outs;
    } in
    rows_told g a.rows a.nexts.now a.ins.now a.outs.now _ x _ c.counts-n.ensures c.step_rows-r.ensures c.stepped.ensures
