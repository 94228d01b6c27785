-- The first of tables 1 to 4 with a literal out of its range, or 0. The answers are given by `table1`, `table2` and `table3`.
use mathlib.Core.Path.{◌≡◌, sym, ◌∙◌}
use mathlib.Core.Bool.{true, false}
use native.Mathlib.Omega.{arith}
use borrow.Author.Tests.{not-true, not-false}
use Rattle.plan.specs.Circuit.{rows_of, all_inside}
use Rattle.judge.proofs.ranges.Named.{table1, table2, table3, table4, no_table, inputs-known, gates-known}
use Rattle.judge.proofs.ranges.first_tables.Goals as goal

pub known_within-requires : goal.known_within-requires
known_within-requires c =
    record { n_in_bounds = omega (arith, c.requires.first_room.inputs_long); table_value = λ e. inputs-known c.requires.first_room (c.requires.gates_value e) }

pub returns-then-not-known_within : goal.returns-then-not-known_within
returns-then-not-known_within c =
    table1 c.requires.first_room
    (sym c.known_within.ensures ∙ not-true c.known_within.result c.if-not-known_within.true-raw)

pub returns-then-not-rows_within : goal.returns-then-not-rows_within
returns-then-not-rows_within c =
    let inputs_in : let a = c.args in all_inside true a.n.M (rows_of 1 a.n.I a.inputs.now) ≡ true =
    sym c.known_within.ensures ∙ not-false c.known_within.result c.if-not-known_within.false-raw in
    table2 c.requires.first_room (inputs_in)
    (sym c.rows_within.ensures ∙ not-true c.rows_within.result c.if-not-rows_within.true-raw)

pub returns-then-not-rows_within-2 : goal.returns-then-not-rows_within-2
returns-then-not-rows_within-2 c =
    let inputs_in : let a = c.args in all_inside true a.n.M (rows_of 1 a.n.I a.inputs.now) ≡ true =
    sym c.known_within.ensures ∙ not-false c.known_within.result c.if-not-known_within.false-raw in
    let latches-in : let a = c.args in all_inside true a.n.M (rows_of 2 a.n.L a.latches.now) ≡ true =
    sym c.rows_within.ensures ∙ not-false c.rows_within.result c.if-not-rows_within.false-raw in
    table3 c.requires.first_room (inputs_in) (latches-in)
    (sym c.rows_within-2.ensures ∙ not-true c.rows_within-2.result c.if-not-rows_within-2.true-raw)

pub known_within-requires-2 : goal.known_within-requires-2
known_within-requires-2 c =
    record { n_in_bounds = c.requires.first_room.gates-long; table_value = λ e. gates-known c.requires.first_room (c.requires.gates_value e) }

pub returns-then-not-known_within-2 : goal.returns-then-not-known_within-2
returns-then-not-known_within-2 c =
    let inputs_in : let a = c.args in all_inside true a.n.M (rows_of 1 a.n.I a.inputs.now) ≡ true =
    sym c.known_within.ensures ∙ not-false c.known_within.result c.if-not-known_within.false-raw in
    let latches-in : let a = c.args in all_inside true a.n.M (rows_of 2 a.n.L a.latches.now) ≡ true =
    sym c.rows_within.ensures ∙ not-false c.rows_within.result c.if-not-rows_within.false-raw in
    let outputs-in : let a = c.args in all_inside false a.n.M (rows_of 1 a.n.O a.outputs.now) ≡ true =
    sym c.rows_within-2.ensures ∙ not-false c.rows_within-2.result c.if-not-rows_within-2.false-raw in
    table4 c.requires.first_room (inputs_in) (latches-in) (outputs-in)
    (sym c.known_within-2.ensures ∙ not-true c.known_within-2.result c.if-not-known_within-2.true-raw)

pub returns : goal.returns
returns c =
    let inputs_in : let a = c.args in all_inside true a.n.M (rows_of 1 a.n.I a.inputs.now) ≡ true =
    sym c.known_within.ensures ∙ not-false c.known_within.result c.if-not-known_within.false-raw in
    let latches-in : let a = c.args in all_inside true a.n.M (rows_of 2 a.n.L a.latches.now) ≡ true =
    sym c.rows_within.ensures ∙ not-false c.rows_within.result c.if-not-rows_within.false-raw in
    let outputs-in : let a = c.args in all_inside false a.n.M (rows_of 1 a.n.O a.outputs.now) ≡ true =
    sym c.rows_within-2.ensures ∙ not-false c.rows_within-2.result c.if-not-rows_within-2.false-raw in
    let gates-in : let a = c.args in all_inside true a.n.M (rows_of 3 a.n.A a.gates.now) ≡ true =
    sym c.known_within-2.ensures ∙ not-false c.known_within-2.result c.if-not-known_within-2.false-raw in
    no_table c.requires.first_room (inputs_in) (latches-in) (outputs-in) (gates-in)
