-- Converts the circuit in given tables into written ones: number (0: converted), place and the counts M, I, L, O, A, B, C. Each answer is given by
-- `made_told`.
use Rattle.plan.specs.Circuit.{seven}
use Rattle.plan.specs.Circuit.{Tables}
use Rattle.plan.specs.Header.{counts_from}
use Rattle.plan.specs.Given.{Given}
use Rattle.judge.specs.Judged.{given_at}
use Rattle.plan.specs.Outcome.{MakeExit, conversion}
use Rattle.desk.proofs.Answers.{made_told}
use Rattle.desk.proofs.golvanzo_convert.Goals as goal

pub returns : goal.returns
returns c =
    let a = c.args in
    let g : Given = given_at (counts_from a.counts.now) (seven a.inputs.now a.latches.now a.outputs.now a.gates.now
    a.resets.now a.bads.now a.constraints.now) a.scratch.now in
    let t : Tables = seven a.to_inputs.now a.to_latches.now a.to_outputs.now a.to_gates.now
    a.to_resets.now a.to_bads.now a.to_constraints.now in
    let x : MakeExit = record {
      answer = c.convert-r.result;
      written = seven c.convert-r.new.to_inputs c.convert-r.new.to_latches
          c.convert-r.new.to_outputs c.convert-r.new.to_gates
          c.convert-r.new.to_resets c.convert-r.new.to_bads
          c.convert-r.new.to_constraints;
      scratch = c.convert-r.new.scratch;
    } in
    made_told conversion g t _ x _ c.counts-n.ensures c.convert-r.ensures c.made.ensures
