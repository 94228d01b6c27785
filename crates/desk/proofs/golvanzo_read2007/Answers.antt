-- The same by the report of 2007: resets are 0, and there are no bad states and no constraints. Each answer is given by `tail-starts`.
use native.Mathlib.Omega.{arith}
use Rattle.plan.specs.declared.Version.TheVariants.{V2007}
use Rattle.plan.specs.Circuit.{seven}
use Rattle.plan.specs.Outcome.{ReadEntry, ReadExit}
use Rattle.desk.proofs.Tails.{tail-shorter, tail-starts}
use Rattle.desk.proofs.golvanzo_read2007.Goals as goal

pub overflow_sub-result : goal.overflow_sub-result
overflow_sub-result c =
    let a = c.args in
    let e : ReadEntry = record {
      file = a.file.now;
      tables = seven a.inputs.now a.latches.now a.outputs.now a.gates.now a.resets.now a.bads.now a.constraints.now;
      scratch = a.scratch.now;
    } in
    let x : ReadExit = record {
      answer = c.read-tail.new.answer;
      tail = c.read-tail.result.now;
      tables = seven c.read-tail.new.inputs c.read-tail.new.latches c.read-tail.new.outputs c.read-tail.new.gates
          c.read-tail.new.resets c.read-tail.new.bads c.read-tail.new.constraints;
      scratch = c.read-tail.new.scratch;
    } in
    omega (arith, tail-shorter V2007 e x c.read-tail.ensures)

pub returns : goal.returns
returns c =
    let a = c.args in
    let e : ReadEntry = record {
      file = a.file.now;
      tables = seven a.inputs.now a.latches.now a.outputs.now a.gates.now a.resets.now a.bads.now a.constraints.now;
      scratch = a.scratch.now;
    } in
    let x : ReadExit = record {
      answer = c.read-tail.new.answer;
      tail = c.read-tail.result.now;
      tables = seven c.read-tail.new.inputs c.read-tail.new.latches c.read-tail.new.outputs c.read-tail.new.gates
          c.read-tail.new.resets c.read-tail.new.bads c.read-tail.new.constraints;
      scratch = c.read-tail.new.scratch;
    } in
    tail-starts V2007 e x c.read-tail.ensures
