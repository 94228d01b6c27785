-- The parts of a symbol line, one after the other.
use mathlib.Core.Path.{sym, ◌∙◌}
use native.Mathlib.Omega.{arith}
use Rattle.lines.proofs.tail.Lines.{stands-in, no_number, no-space, no_line, line-ends}
use Rattle.laws.proofs.Pairs.{passed-on}
use Rattle.lines.proofs.tail.read_line.Goals as goal

pub returns-then-not-ends : goal.returns-then-not-ends
returns-then-not-ends c =
    let a = c.args in
    no-space a.file.now a.at c.in_ok-entry.entry c.in_ok-entry.space (sym c.in_ok-entry.was ∙ c.read_number.ensures)
    (sym c.ends.ensures ∙ c.if-not-ends.true)

pub overflow_add-space : goal.overflow_add-space
overflow_add-space c =
    let a = c.args in
    omega (arith, stands-in a.file.now c.in_ok-entry.space 32 (omega arith) (sym c.ends.ensures ∙ c.if-not-ends.false))

pub returns-then-not-ends-2 : goal.returns-then-not-ends-2
returns-then-not-ends-2 c =
    let a = c.args in
    no_line a.file.now a.at c.in_ok-entry.entry c.in_ok-entry.space (sym c.in_ok-entry.was ∙ c.read_number.ensures) _
    (sym c.ends.ensures ∙ c.if-not-ends.false) c.name_end-end.ensures
    (sym c.ends-2.ensures ∙ c.if-not-ends-2.true)

pub overflow_add-result : goal.overflow_add-result
overflow_add-result c =
    let a = c.args in
    let newline = sym c.ends-2.ensures ∙ c.if-not-ends-2.false in
    omega (arith, stands-in a.file.now c.name_end-end.result 10 (omega arith) newline)

pub returns-in_err-entry : goal.returns-in_err-entry
returns-in_err-entry c =
    let a = c.args in
    passed-on _ c.from_residual.ensures.1 ∙ no_number a.file.now a.at _ (sym c.in_err-entry.was ∙ c.read_number.ensures)

pub returns : goal.returns
returns c =
    let a = c.args in
    line-ends a.file.now a.at c.in_ok-entry.entry c.in_ok-entry.space (sym c.in_ok-entry.was ∙ c.read_number.ensures) _
    (sym c.ends.ensures ∙ c.if-not-ends.false) c.name_end-end.ensures
    (sym c.ends-2.ensures ∙ c.if-not-ends-2.false)
