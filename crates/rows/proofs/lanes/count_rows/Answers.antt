-- Per output the rows at 0, at 1 and at x. The loop keeps the numbers of the outputs before; `rows_more` carries them from turn to turn.
use Prim.Native.Nat.{◌*◌}
use mathlib.Core.Path.{refl, ap, ◌∙◌}
use native.Mathlib.Omega.{arith}
use lib.ListN.{get_or}
use Rattle.plan.specs.declared.Lit.{Lit}
use Rattle.plan.specs.Literals.{word_of}
use Rattle.plan.specs.Outcome.{put}
use Rattle.judge.proofs.used.Walked.{one_word}
use Rattle.rows.specs.lanes.Working.{counts_at}
use Rattle.rows.proofs.lanes.Turns.{rows_more}
use Rattle.rows.proofs.lanes.count_rows.Goals as goal

pub count_literal-requires-clause-there : goal.count_literal-requires-clause-there
count_literal-requires-clause-there c =
    rw (c.at.ensures, one_word c.args.outputs.now c.loop-j.j) (c.requires.shows.inside c.loop-j.j c.loop-j-test.true)

pub loop-j-preserved : goal.loop-j-preserved
loop-j-preserved c =
    let a = c.args in
    let mask = c.mask_of-mask.result in
    rows_more (λ i. counts_at a.t.now mask (get_or a.outputs.now i 0)) 3 (λ i. refl) c.loop-j.j _ a.report.now c.loop-j.report _
    refl (omega arith) c.loop-j.invariant
    (c.count_literal.ensures ∙ ap (λ (x : Lit). put c.loop-j.report (3 * c.loop-j.j) (counts_at a.t.now mask (word_of x))) c.at.ensures)
