-- The witness question by fillings, of which at most `allowance` are tried: number (0: answered), place, 1 for yes, 0 for no or 2 for undecided, and
-- how many were tried. Each answer is given by `witness-told`.
use Rattle.plan.specs.Circuit.{seven}
use Rattle.plan.specs.Header.{counts_from}
use Rattle.plan.specs.Given.{Given}
use Rattle.judge.specs.Judged.{given_at}
use Rattle.plan.specs.Fillings.{FilledExit}
use Rattle.desk.proofs.Answers.{witness-told}
use Rattle.desk.proofs.golvanzo_witness.Goals as goal

pub returns : goal.returns
returns c =
    let a = c.args in
    let g : Given = given_at (counts_from a.counts.now) (seven a.inputs.now a.latches.now a.outputs.now a.gates.now
    a.resets.now a.bads.now a.constraints.now) a.scratch.now in
    let x : FilledExit = record { answer = c.witness-r.result; scratch = c.witness-r.new.scratch } in
    witness-told g a.number a.bytes.now a.allowance _ x _ c.counts-n.ensures c.witness-r.ensures c.finding.ensures
