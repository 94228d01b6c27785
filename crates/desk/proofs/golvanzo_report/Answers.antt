-- The needle report of a list of vectors: number (0: reported) and place; the numbers go to table 6. Each answer is given by `report-told`.
use Rattle.plan.specs.Circuit.{seven}
use Rattle.plan.specs.Header.{counts_from}
use Rattle.plan.specs.Given.{Given}
use Rattle.judge.specs.Judged.{given_at}
use Rattle.plan.specs.Report.{ReportExit}
use Rattle.desk.proofs.Reporting.{report-told}
use Rattle.desk.proofs.golvanzo_report.Goals as goal

pub returns : goal.returns
returns c =
    let a = c.args in
    let g : Given = given_at (counts_from a.counts.now) (seven a.inputs.now a.latches.now a.outputs.now a.gates.now
    a.resets.now a.bads.now a.constraints.now) a.scratch.now in
    let x : ReportExit = record {
      answer = c.report-r.result;
      scratch = c.report-r.new.scratch;
      six = c.report-r.new.six;
    } in
    report-told g a.number a.bytes.now a.six.now _ x _ c.counts-n.ensures c.report-r.ensures c.stepped.ensures
