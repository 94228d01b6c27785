-- Each answer is given by `refusal-told`.
use mathlib.Core.Path.{refl, sym, ap, ◌∙◌}
use Rattle.plan.specs.Outcome.{stepped_values}
use Rattle.answers.proofs.numbers.Refused.{refusal-told}
use Rattle.answers.proofs.numbers.stepped.Goals as goal

pub returns-in-Err : goal.returns-in-Err
returns-in-Err c =
    refusal-told c.told_number.ensures c.told_place.ensures refl
    ∙ sym (ap stepped_values c.in-Err.is)
