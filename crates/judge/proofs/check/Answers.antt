-- The given tables' own sizes.
use mathlib.Core.Path.{◌∙◌}
use mathlib.Core.Bool.{false}
use Rattle.plan.specs.Circuit.{Tables, seven}
use Rattle.plan.specs.Given.{Given}
use Rattle.judge.specs.Judged.{given_at}
use Rattle.judge.proofs.Stages.{alone-answer}
use Rattle.judge.proofs.check.Goals as goal

pub returns : goal.returns
returns c =
    let tables : Tables =
    let a = c.args in
    seven a.inputs.now a.latches.now a.outputs.now a.gates.now a.resets.now a.bads.now a.constraints.now in
    let entry : Given =
    given_at c.args.n (tables) c.args.scratch.now in
    c.check_to_make.ensures (tables) c.lengths-own.ensures ∙ alone-answer false (entry)
