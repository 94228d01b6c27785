-- Whether a table's word is in its range. The answer is that of the call below it.
use mathlib.Core.Path.{ap, ◌∙◌}
use Rattle.plan.specs.declared.Lit.{Lit}
use Rattle.plan.specs.Literals.{word_of, in_range}
use Rattle.judge.proofs.ranges.word_within.Goals as goal

pub returns : goal.returns
returns c =
    let a = c.args in
    c.within.ensures ∙ ap (λ (l : Lit). in_range a.defines a.m (word_of l)) c.at.ensures
