-- The first check that finds something, or the counts.
use mathlib.Core.Path.{sym, ap, ◌∙◌}
use Rattle.plan.specs.declared.Counts.{Counts}
use Rattle.plan.specs.declared.Refusal.TheVariants.{WrongByte, WrongMark}
use Rattle.plan.specs.Header.{list_of, over}
use Rattle.plan.specs.Given.{counted}
use Rattle.plan.specs.Cards.{bad_length, wrong_marks}
use Rattle.cards.proofs.head.Told.{was-nothing, head-2, large-placed}
use Rattle.cards.proofs.head.read_head.Goals as goal

pub returns-in-Some : goal.returns-in-Some
returns-in-Some c =
    let f = c.args.file.now in
    let n-is = c.counts_at-n.ensures.value in
    let right-length = was-nothing WrongByte (bad_length f) (sym c.check_length.ensures ∙ c.in_ok-check_length.was) in
    let right-marks = ap (wrong_marks f) (sym n-is)
    ∙ was-nothing WrongMark (wrong_marks f c.counts_at-n.result) (sym c.all_marks.ensures ∙ c.in_ok-all_marks.was) in
    let counts-are = c.large_count.ensures ∙ ap (λ (n : Counts). over (counted 1 (list_of n))) n-is in
    head-2 f right-length right-marks _ (large-placed f c.in-Some.large (sym counts-are ∙ c.in-Some.is)).0
