-- The values are M, I, L, O, A, B, C of the circuit made. Each answer is given by `refusal-told`.
use mathlib.Core.Path.{sym, ap, ◌∙◌}
use Rattle.plan.specs.Outcome.{made_values}
use Rattle.answers.proofs.numbers.Refused.{refusal-told}
use Rattle.answers.proofs.numbers.made.Goals as goal

pub returns-in-Ok : goal.returns-in-Ok
returns-in-Ok c = c.tell.ensures ∙ sym (ap made_values c.in-Ok.is)

pub returns-in-Err : goal.returns-in-Err
returns-in-Err c =
    c.tell-in-Err.ensures
    ∙ (refusal-told c.told_number.ensures c.told_place.ensures
    c.no_counts.ensures
    ∙ sym (ap made_values c.in-Err.is))
