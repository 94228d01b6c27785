-- Each return is one of the ways through a gate.
use mathlib.Core.Path.{sym, ◌∙◌}
use Rattle.plan.specs.Literals.{word_of}
use Rattle.lines.proofs.gates.Sides.{of-variable, second-refused, both-taken}
use Rattle.laws.proofs.Pairs.{passed-on}
use Rattle.lines.proofs.gates.gate_at.Goals as goal

pub returns-in_err-rhs1 : goal.returns-in_err-rhs1
returns-in_err-rhs1 c =
    let a = c.args in
    let lhs = c.lit-lhs.result in
    passed-on _ c.from_residual-in_err-rhs1.ensures.1
    ∙ second-refused a.file.now (word_of lhs) a.at c.in_ok-rhs0.rhs0 c.in_ok-rhs0.middle (sym c.in_ok-rhs0.was ∙ c.taken.ensures)
    _ (sym c.in_err-rhs1.was ∙ c.taken-2.ensures)
    ∙ of-variable a.file.now a.v a.at c.at.result lhs c.requires c.at.ensures c.lit-lhs.ensures

pub returns : goal.returns
returns c =
    let a = c.args in
    let lhs = c.lit-lhs.result in
    both-taken a.file.now (word_of lhs) a.at c.in_ok-rhs0.rhs0 c.in_ok-rhs0.middle (sym c.in_ok-rhs0.was ∙ c.taken.ensures)
    c.in_ok-rhs1.rhs1 c.in_ok-rhs1.next (sym c.in_ok-rhs1.was ∙ c.taken-2.ensures)
    ∙ of-variable a.file.now a.v a.at c.at.result lhs c.requires c.at.ensures c.lit-lhs.ensures
