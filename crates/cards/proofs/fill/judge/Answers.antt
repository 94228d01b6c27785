-- 5, then 15.
use mathlib.Core.Path.{sym, ◌∙◌}
use borrow.Author.Tests.{not-true, not-false}
use Rattle.tables.specs.Held.{circuit_in}
use Rattle.plan.specs.Circuit.{Circuit}
use Rattle.judge.proofs.Judging.{long-tables}
use Rattle.cards.proofs.fill.Judged.{at_five, at-fifteen, good}
use Rattle.cards.proofs.fill.judge.Goals as goal

pub in_binary_order-in_order-requires : goal.in_binary_order-in_order-requires
in_binary_order-in_order-requires c = long-tables c.requires

pub out_of_range-requires : goal.out_of_range-requires
out_of_range-requires c =
    let a = c.args in
    record { fits = c.requires; constraints_value = λ e. sym (c.in_binary_order-in_order.ensures a.outputs.now a.resets.now a.bads.now a.constraints.now) ∙ e }

pub returns-in-Some : goal.returns-in-Some
returns-in-Some c =
    let circuit : Circuit =
    let a = c.args in
    circuit_in a.n a.inputs.now a.latches.now a.outputs.now a.gates.now a.resets.now a.bads.now a.constraints.now in
    at_five (circuit) _ (sym c.out_of_range.ensures ∙ c.in-Some.is)

pub returns-then-not-in_order : goal.returns-then-not-in_order
returns-then-not-in_order c =
    let circuit : Circuit =
    let a = c.args in
    circuit_in a.n a.inputs.now a.latches.now a.outputs.now a.gates.now a.resets.now a.bads.now a.constraints.now in
    let a = c.args in
    at-fifteen (circuit) (sym c.out_of_range.ensures ∙ c.in_default.is)
    (sym (c.in_binary_order-in_order.ensures a.outputs.now a.resets.now a.bads.now a.constraints.now) ∙ not-true _
    c.if-not-in_order.true-raw)

pub returns : goal.returns
returns c =
    let circuit : Circuit =
    let a = c.args in
    circuit_in a.n a.inputs.now a.latches.now a.outputs.now a.gates.now a.resets.now a.bads.now a.constraints.now in
    let a = c.args in
    good (circuit) (sym c.out_of_range.ensures ∙ c.in_default.is)
    (sym (c.in_binary_order-in_order.ensures a.outputs.now a.resets.now a.bads.now a.constraints.now) ∙ not-false _
    c.if-not-in_order.false-raw)
