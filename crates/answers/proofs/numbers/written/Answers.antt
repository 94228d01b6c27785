-- The value is the number of bytes written. Each answer is given by `refusal-told`.
use mathlib.Core.Path.{refl, sym, ap, ◌∙◌}
use Rattle.plan.specs.Outcome.{written_values}
use Rattle.answers.proofs.numbers.Refused.{refusal-told}
use Rattle.answers.proofs.numbers.written.Goals as goal

pub returns-in-Ok : goal.returns-in-Ok
returns-in-Ok c = sym (ap written_values c.in-Ok.is)

pub returns-in-Err : goal.returns-in-Err
returns-in-Err c =
    refusal-told c.told_number.ensures c.told_place.ensures refl
    ∙ sym (ap written_values c.in-Err.is)
