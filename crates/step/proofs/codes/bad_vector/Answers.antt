-- The first vector that is refused: 1 the state, 2 the inputs, 3 the outputs, of which only the length is judged; or 0. The answers are given by
-- `bad-state`, `codes_in` and `bad-inputs`.
use lib.Dec.{eqb}
use mathlib.Core.Path.{◌≡◌, sym, ◌∙◌}
use mathlib.Core.Bool.{true}
use borrow.Author.Tests.{not-true, not-false, eq-eqb, ne_eqb}
use Rattle.step.proofs.codes.Places.{codes_in, bad-state, bad-inputs, bad-outputs, none-bad}
use Rattle.step.proofs.codes.bad_vector.Goals as goal

pub returns-then-not-codes_in : goal.returns-then-not-codes_in
returns-then-not-codes_in c =
    let a = c.args in
    bad-state _ (codes_in a.ins.now a.n.I) (eqb a.outs a.n.O)
    (sym c.codes_in.ensures ∙ not-true _ c.if-not-codes_in.true-raw)

pub returns-then-not-codes_in-2 : goal.returns-then-not-codes_in-2
returns-then-not-codes_in-2 c =
    let good-state : let a = c.args in codes_in a.state.now a.n.L ≡ true =
    sym c.codes_in.ensures ∙ not-false _ c.if-not-codes_in.false-raw in
    let a = c.args in
    bad-inputs _ _ (eqb a.outs a.n.O) (good-state)
    (sym c.codes_in-2.ensures ∙ not-true _ c.if-not-codes_in-2.true-raw)

pub returns-then-outs-n : goal.returns-then-outs-n
returns-then-outs-n c =
    let good-state : let a = c.args in codes_in a.state.now a.n.L ≡ true =
    sym c.codes_in.ensures ∙ not-false _ c.if-not-codes_in.false-raw in
    let good-inputs : let a = c.args in codes_in a.ins.now a.n.I ≡ true =
    sym c.codes_in-2.ensures ∙ not-false _ c.if-not-codes_in-2.false-raw in
    bad-outputs _ _ _ (good-state) (good-inputs) (ne_eqb _ _ c.if-outs-n.true)

pub returns : goal.returns
returns c =
    let good-state : let a = c.args in codes_in a.state.now a.n.L ≡ true =
    sym c.codes_in.ensures ∙ not-false _ c.if-not-codes_in.false-raw in
    let good-inputs : let a = c.args in codes_in a.ins.now a.n.I ≡ true =
    sym c.codes_in-2.ensures ∙ not-false _ c.if-not-codes_in-2.false-raw in
    none-bad _ _ _ (good-state) (good-inputs) (eq-eqb _ _ c.if-outs-n.false)
