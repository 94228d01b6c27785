-- The right sides of one gate of given tables, which are in binary order, with the values of a step: number (0: rewired) and place. Each answer is
-- given by `rewire-told`.
use Rattle.plan.specs.Circuit.{seven}
use Rattle.plan.specs.Header.{counts_from}
use Rattle.plan.specs.Given.{Given}
use Rattle.judge.specs.Judged.{given_at}
use Rattle.plan.specs.Rewire.{RewireExit}
use Rattle.desk.proofs.Answers.{rewire-told}
use Rattle.desk.proofs.golvanzo_rewire.Goals as goal

pub returns : goal.returns
returns c =
    let a = c.args in
    let g : Given = given_at (counts_from a.counts.now) (seven a.inputs.now a.latches.now a.outputs.now a.gates.now
    a.resets.now a.bads.now a.constraints.now) a.scratch.now in
    let x : RewireExit = record {
      answer = c.rewire-r.result;
      gates = c.rewire-r.new.gates;
      scratch = c.rewire-r.new.scratch;
      values = c.rewire-r.new.values;
    } in
    rewire-told g a.gate a.rhs0 a.rhs1 a.values.now _ x _ c.counts-n.ensures c.rewire-r.ensures c.stepped.ensures
