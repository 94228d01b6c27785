-- The same in binary form. Each answer is given by `file-told`.
use Rattle.plan.specs.Circuit.{seven}
use Rattle.plan.specs.Header.{counts_from}
use Rattle.plan.specs.Given.{Given}
use Rattle.judge.specs.Judged.{given_at}
use Rattle.plan.specs.Outcome.{FileExit, write_binary}
use Rattle.desk.proofs.Answers.{file-told}
use Rattle.desk.proofs.golvanzo_write_binary.Goals as goal

pub returns : goal.returns
returns c =
    let a = c.args in
    let g : Given = given_at (counts_from a.counts.now) (seven a.inputs.now a.latches.now a.outputs.now a.gates.now
    a.resets.now a.bads.now a.constraints.now) a.scratch.now in
    let x : FileExit = record {
      answer = c.write_binary-r.result;
      scratch = c.write_binary-r.new.scratch;
      out
          = c.write_binary-r.new.out;
    } in
    file-told write_binary g a.tail.now a.out.now _ x _ c.counts-n.ensures c.write_binary-r.ensures c.written.ensures
