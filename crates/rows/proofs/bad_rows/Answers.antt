-- The first list that is refused: 1 the next states and 3 the outputs, of which the length is judged, 2 the inputs. The answers are given by
-- `bad-state`, `whole_in` and `bad-inputs`.
use Prim.Native.Nat.{◌*◌}
use lib.Dec.{eqb}
use mathlib.Core.Path.{sym, ◌∙◌}
use borrow.Author.Tests.{not-true, not-false, eq-eqb, ne_eqb}
use Rattle.step.proofs.codes.Places.{bad-state, bad-inputs, bad-outputs, none-bad}
use Rattle.rows.proofs.Lists.{whole_in, product_small}
use Rattle.rows.proofs.bad_rows.Goals as goal

pub overflow_mul-rows : goal.overflow_mul-rows
overflow_mul-rows c =
    record { fits = product_small c.args.rows c.args.n.L c.requires.rows_bound c.requires.i_le_most.1 }

pub returns-then-nexts-rows : goal.returns-then-nexts-rows
returns-then-nexts-rows c =
    let a = c.args in
    bad-state (eqb a.nexts (a.rows * a.n.L)) (whole_in a.ins.now a.rows a.n.I) (eqb a.outs (a.rows * a.n.O))
    (ne_eqb _ _ c.if-nexts-rows.true)

pub whole_rows-requires : goal.whole_rows-requires
whole_rows-requires c = record { rows_bound = c.requires.rows_bound; each_le_most = c.requires.i_le_most.0 }

pub returns-then-not-whole_rows : goal.returns-then-not-whole_rows
returns-then-not-whole_rows c =
    let a = c.args in
    bad-inputs (eqb a.nexts (a.rows * a.n.L)) (whole_in a.ins.now a.rows a.n.I) (eqb a.outs (a.rows * a.n.O))
    (eq-eqb _ _ c.if-nexts-rows.false) (sym c.whole_rows.ensures ∙ not-true _ c.if-not-whole_rows.true-raw)

pub overflow_mul-rows-2 : goal.overflow_mul-rows-2
overflow_mul-rows-2 c =
    record { fits = product_small c.args.rows c.args.n.O c.requires.rows_bound c.requires.i_le_most.2 }

pub returns-then-outs-rows : goal.returns-then-outs-rows
returns-then-outs-rows c =
    let a = c.args in
    bad-outputs (eqb a.nexts (a.rows * a.n.L)) (whole_in a.ins.now a.rows a.n.I) (eqb a.outs (a.rows * a.n.O))
    (eq-eqb _ _ c.if-nexts-rows.false)
    (sym c.whole_rows.ensures ∙ not-false _ c.if-not-whole_rows.false-raw) (ne_eqb _ _ c.if-outs-rows.true)

pub returns : goal.returns
returns c =
    let a = c.args in
    none-bad (eqb a.nexts (a.rows * a.n.L)) (whole_in a.ins.now a.rows a.n.I) (eqb a.outs (a.rows * a.n.O))
    (eq-eqb _ _ c.if-nexts-rows.false)
    (sym c.whole_rows.ensures ∙ not-false _ c.if-not-whole_rows.false-raw) (eq-eqb _ _ c.if-outs-rows.false)
