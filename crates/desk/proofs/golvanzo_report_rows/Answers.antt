-- The row report of up to 64 rows, into table 6: number (0: reported) and place. Each answer is given by `report-told`.
use Rattle.plan.specs.Circuit.{seven}
use Rattle.plan.specs.Header.{counts_from}
use Rattle.plan.specs.Given.{Given}
use Rattle.judge.specs.Judged.{given_at}
use Rattle.plan.specs.Rows.{RowReportExit}
use Rattle.desk.proofs.RowsAnswers.{report-told}
use Rattle.desk.proofs.golvanzo_report_rows.Goals as goal

pub returns : goal.returns
returns c =
    let a = c.args in
    let g : Given = given_at (counts_from a.counts.now) (seven a.inputs.now a.latches.now a.outputs.now a.gates.now
    a.resets.now a.bads.now a.constraints.now) a.scratch.now in
    let x : RowReportExit = record {
      answer = c.report_rows-r.result;
      scratch = c.report_rows-r.new.scratch;
      report = c.report_rows-r.new.report;
    } in
    report-told g a.rows a.ins.now a.report.now _ x _ c.counts-n.ensures c.report_rows-r.ensures
    c.stepped.ensures
