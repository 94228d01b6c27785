-- The rows in which a literal is 0, 1 and x. The answers are given by `three-put` and `literal-counts`.
use mathlib.Core.Path.{sym, ap, ◌∙◌, subst}
use native.Mathlib.Omega.{arith}
use lib.ListN.{length-set}
use Rattle.plan.specs.declared.Lit.{Lit}
use Rattle.plan.specs.Literals.{word_of}
use Rattle.plan.specs.Outcome.{put}
use Rattle.rows.specs.lanes.Words.{plane_at}
use Rattle.rows.specs.lanes.Working.{There}
use Rattle.rows.proofs.lanes.Turns.{three-put, literal-counts}
use Rattle.rows.proofs.lanes.count_literal.Goals as goal

pub plane_of-zero-requires : goal.plane_of-zero-requires
plane_of-zero-requires c =
    subst (λ (x : Lit). There (word_of x) c.args.t.now) (sym c.negated.ensures) (omega (arith, c.requires.there))

pub bounds-report-at-2 : goal.bounds-report-at-2
bounds-report-at-2 c = simp length-set (omega arith)

pub bounds-report-at-3 : goal.bounds-report-at-3
bounds-report-at-3 c = simp length-set (omega arith)

pub returns : goal.returns
returns c =
    let a = c.args in
    three-put a.report.now a.at _ _ _ c.requires.at_in_bounds
    ∙ ap (put a.report.now a.at)
    (literal-counts a.t.now a.mask (word_of a.l) _ _ _ _ _ c.plane_of-one.ensures
    (c.plane_of-zero.ensures ∙ ap (λ (x : Lit). plane_at a.t.now (word_of x)) c.negated.ensures)
    c.rows_in.ensures c.rows_in-2.ensures c.rows_in-3.ensures)
