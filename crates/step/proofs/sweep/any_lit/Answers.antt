-- Whether one of the first n literals of a table is 1 after a step. `any-later` carries the invariant from turn to turn, and `any_here` and
-- `any_none` give the answer.
use mathlib.Core.Path.{sym, ap, ◌∙◌, subst}
use Rattle.plan.specs.declared.Lit.{Lit}
use Rattle.plan.specs.Literals.{word_of}
use Rattle.step.specs.sweep.Lookup.{word_at, Inside}
use Rattle.step.proofs.sweep.Seeing.{literal_in, any_here, any-later, any_none}
use Rattle.step.proofs.sweep.any_lit.Goals as goal

pub value_of-requires : goal.value_of-requires
value_of-requires c =
    subst (λ (l : Lit). Inside c.args.lits c.args.t.now (word_of l)) (sym c.at.ensures)
    (literal_in c.requires c.loop-l.l-index c.loop-l-test.true)

pub returns-then-value_of-eq-MAY1 : goal.returns-then-value_of-eq-MAY1
returns-then-value_of-eq-MAY1 c =
    let a = c.args in
    any_here a.lits a.t.now _ c.loop-l.l-index c.loop-l-test.true _
    (c.value_of.ensures ∙ ap (λ (l : Lit). word_at a.lits a.t.now (word_of l)) c.at.ensures)
    c.loop-l.invariant c.if-value_of-eq-MAY1.true

pub loop-l-preserved : goal.loop-l-preserved
loop-l-preserved c =
    let a = c.args in
    any-later a.lits a.t.now _ c.loop-l.l-index c.loop-l-test.true _
    (c.value_of.ensures ∙ ap (λ (l : Lit). word_at a.lits a.t.now (word_of l)) c.at.ensures)
    c.loop-l.invariant c.if-value_of-eq-MAY1.false

pub returns : goal.returns
returns c = any_none c.args.lits c.args.t.now _ c.loop-l.l-index c.loop-l-test.false c.loop-l.invariant
