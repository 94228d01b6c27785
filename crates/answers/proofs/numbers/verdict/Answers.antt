-- The value is 1 for yes, 0 for no. Each answer is given by `refusal-told`.
use mathlib.Core.Path.{refl, sym, ap, ◌∙◌}
use Rattle.plan.specs.Outcome.{verdict_values}
use Rattle.answers.proofs.numbers.Refused.{refusal-told}
use Rattle.answers.proofs.numbers.verdict.Goals as goal

pub returns-in-Err : goal.returns-in-Err
returns-in-Err c =
    refusal-told c.told_number.ensures c.told_place.ensures refl
    ∙ sym (ap verdict_values c.in-Err.is)
