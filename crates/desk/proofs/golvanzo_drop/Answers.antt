-- Drops the unused gates of the circuit in given tables, which are in binary order, into written ones: the same answer. Each answer is given by
-- `made_told`.
use Rattle.plan.specs.Circuit.{seven}
use Rattle.plan.specs.Circuit.{Tables}
use Rattle.plan.specs.Header.{counts_from}
use Rattle.plan.specs.Given.{Given}
use Rattle.judge.specs.Judged.{given_at}
use Rattle.plan.specs.Outcome.{MakeExit}
use Rattle.plan.specs.Drop.{dropping}
use Rattle.desk.proofs.Answers.{made_told}
use Rattle.desk.proofs.golvanzo_drop.Goals as goal

pub returns : goal.returns
returns c =
    let a = c.args in
    let g : Given = given_at (counts_from a.counts.now) (seven a.inputs.now a.latches.now a.outputs.now a.gates.now
    a.resets.now a.bads.now a.constraints.now) a.scratch.now in
    let t : Tables = seven a.to_inputs.now a.to_latches.now a.to_outputs.now a.to_gates.now
    a.to_resets.now a.to_bads.now a.to_constraints.now in
    let x : MakeExit = record {
      answer = c.drop_unused-r.result;
      written = seven c.drop_unused-r.new.to_inputs c.drop_unused-r.new.to_latches
          c.drop_unused-r.new.to_outputs c.drop_unused-r.new.to_gates
          c.drop_unused-r.new.to_resets c.drop_unused-r.new.to_bads
          c.drop_unused-r.new.to_constraints;
      scratch = c.drop_unused-r.new.scratch;
    } in
    made_told dropping g t _ x _ c.counts-n.ensures c.drop_unused-r.ensures c.made.ensures
