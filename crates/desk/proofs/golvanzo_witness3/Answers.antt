-- The witness question in three values, in which nothing is filled: number (0: answered), place, and 1 for yes or 0 for no. Each answer is given by
-- `witness3-told`.
use Rattle.plan.specs.Circuit.{seven}
use Rattle.plan.specs.Header.{counts_from}
use Rattle.plan.specs.Given.{Given}
use Rattle.judge.specs.Judged.{given_at}
use Rattle.plan.specs.Outcome.{WitnessExit}
use Rattle.desk.proofs.Answers.{witness3-told}
use Rattle.desk.proofs.golvanzo_witness3.Goals as goal

pub returns : goal.returns
returns c =
    let a = c.args in
    let g : Given = given_at (counts_from a.counts.now) (seven a.inputs.now a.latches.now a.outputs.now a.gates.now
    a.resets.now a.bads.now a.constraints.now) a.scratch.now in
    let x : WitnessExit = record { answer = c.witness3-r.result; scratch = c.witness3-r.new.scratch } in
    witness3-told g a.number a.bytes.now _ x _ c.counts-n.ensures c.witness3-r.ensures c.verdict.ensures
