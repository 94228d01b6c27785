-- Whether all of them are. `all-later` carries the invariant from turn to turn, and `all_here` and `all_seen` give the answer.
use mathlib.Core.Path.{sym, ap, ◌∙◌, subst}
use Rattle.plan.specs.declared.Lit.{Lit}
use Rattle.plan.specs.Literals.{word_of}
use Rattle.step.specs.sweep.Lookup.{word_at, Inside}
use Rattle.step.proofs.sweep.Seeing.{literal_in, all_here, all-later, all_seen}
use Rattle.step.proofs.sweep.all_lits.Goals as goal

pub value_of-requires : goal.value_of-requires
value_of-requires c =
    subst (λ (l : Lit). Inside c.args.lits c.args.t.now (word_of l)) (sym c.at.ensures)
    (literal_in c.requires c.loop-l.l-index c.loop-l-test.true)

pub returns-then-value_of-ne-MAY1 : goal.returns-then-value_of-ne-MAY1
returns-then-value_of-ne-MAY1 c =
    let a = c.args in
    all_here a.lits a.t.now _ c.loop-l.l-index c.loop-l-test.true _
    (c.value_of.ensures ∙ ap (λ (l : Lit). word_at a.lits a.t.now (word_of l)) c.at.ensures)
    c.loop-l.invariant c.if-value_of-ne-MAY1.true

pub loop-l-preserved : goal.loop-l-preserved
loop-l-preserved c =
    let a = c.args in
    all-later a.lits a.t.now _ c.loop-l.l-index c.loop-l-test.true _
    (c.value_of.ensures ∙ ap (λ (l : Lit). word_at a.lits a.t.now (word_of l)) c.at.ensures)
    c.loop-l.invariant c.if-value_of-ne-MAY1.false

pub returns : goal.returns
returns c = all_seen c.args.lits c.args.t.now _ c.loop-l.l-index c.loop-l-test.false c.loop-l.invariant
