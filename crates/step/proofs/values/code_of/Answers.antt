-- Each answer is given by `told-x`.
use mathlib.Core.Path.{sym, ap}
use Rattle.plan.specs.Step.{code_of}
use Rattle.step.proofs.values.Codes.{told-x}
use Rattle.step.proofs.values.code_of.Goals as goal

pub returns : goal.returns
returns c = sym (ap code_of (told-x _ c.if-word-eq-MAY0.false c.if-word-eq-MAY1.false))
