-- The first of tables 7 to 9 with a reset that is none or a literal out of its range, or 0. The answers are given by `table7`, `table8` and `table9`.
use mathlib.Core.Path.{◌≡◌, sym, ◌∙◌}
use mathlib.Core.Bool.{true, false}
use mathlib.Core.List.{map}
use borrow.Author.Tests.{not-true, not-false}
use lib.ListN.{take}
use Rattle.plan.specs.Circuit.{latch_of, rows_of, resets_ok, all_inside}
use Rattle.judge.proofs.ranges.Named.{table7, table8, table9, no-last-table}
use Rattle.judge.proofs.ranges.last_tables.Goals as goal

pub returns-then-not-resets_within : goal.returns-then-not-resets_within
returns-then-not-resets_within c =
    table7 c.requires
    (sym c.resets_within.ensures ∙ not-true c.resets_within.result c.if-not-resets_within.true-raw)

pub returns-then-not-rows_within : goal.returns-then-not-rows_within
returns-then-not-rows_within c =
    let resets-in : let a = c.args in resets_ok (map latch_of (rows_of 2 a.n.L a.latches.now)) (take a.n.L a.resets.now) ≡ true =
    sym c.resets_within.ensures ∙ not-false c.resets_within.result c.if-not-resets_within.false-raw in
    table8 c.requires (resets-in)
    (sym c.rows_within.ensures ∙ not-true c.rows_within.result c.if-not-rows_within.true-raw)

pub returns-then-not-rows_within-2 : goal.returns-then-not-rows_within-2
returns-then-not-rows_within-2 c =
    let resets-in : let a = c.args in resets_ok (map latch_of (rows_of 2 a.n.L a.latches.now)) (take a.n.L a.resets.now) ≡ true =
    sym c.resets_within.ensures ∙ not-false c.resets_within.result c.if-not-resets_within.false-raw in
    let bads-in : let a = c.args in all_inside false a.n.M (rows_of 1 a.n.B a.bads.now) ≡ true =
    sym c.rows_within.ensures ∙ not-false c.rows_within.result c.if-not-rows_within.false-raw in
    table9 c.requires (resets-in) (bads-in)
    (sym c.rows_within-2.ensures ∙ not-true c.rows_within-2.result c.if-not-rows_within-2.true-raw)

pub returns : goal.returns
returns c =
    let resets-in : let a = c.args in resets_ok (map latch_of (rows_of 2 a.n.L a.latches.now)) (take a.n.L a.resets.now) ≡ true =
    sym c.resets_within.ensures ∙ not-false c.resets_within.result c.if-not-resets_within.false-raw in
    let bads-in : let a = c.args in all_inside false a.n.M (rows_of 1 a.n.B a.bads.now) ≡ true =
    sym c.rows_within.ensures ∙ not-false c.rows_within.result c.if-not-rows_within.false-raw in
    no-last-table c.requires (resets-in) (bads-in)
    (sym c.rows_within-2.ensures ∙ not-false c.rows_within-2.result c.if-not-rows_within-2.false-raw)
