-- The value of a variable: a constant's, an input's, a latch's, or that of its gate. The answers are given by `constant-worth` and the like.
use Prim.Native.Nat.{ℕ, ◌≤◌}
use mathlib.Core.Path.{sym, ap, ◌∙◌}
use native.Mathlib.Omega.{arith}
use Rattle.plan.specs.Literals.{word_of}
use Rattle.plan.specs.Step.{code_of, lit}
use Rattle.plain.specs.Asked.{variable_in}
use Rattle.plain.proofs.Worth.{constant-worth, input-worth, latch-worth, gate_of, sides-in, gate-worth}
use Rattle.plain.proofs.Asking.{both-sides}
use Rattle.plain.proofs.+literal_value_variable_value.Goals as goal

pub variable_value-returns-then-index-eq0 : goal.variable_value-returns-then-index-eq0
variable_value-returns-then-index-eq0 t c = constant-worth c.requires.teaches _ (sym c.index-index.ensures ∙ c.if-index-eq0.true)

pub variable_value-returns-then-index-n : goal.variable_value-returns-then-index-n
variable_value-returns-then-index-n t c =
    let a = c.args in
    let w = variable_in a.n a.gates.now a.state.now a.ins.now in
    input-worth c.requires.teaches c.index-index.result c.if-index-eq0.false c.if-index-n.true
    ∙ ap (λ (j : ℕ). code_of (w j)) c.index-index.ensures

pub variable_value-returns-then-index-n-2 : goal.variable_value-returns-then-index-n-2
variable_value-returns-then-index-n-2 t c =
    let a = c.args in
    let w = variable_in a.n a.gates.now a.state.now a.ins.now in
    latch-worth c.requires.teaches c.index-index.result c.if-index-n.false c.if-index-n-2.true
    ∙ ap (λ (j : ℕ). code_of (w j)) c.index-index.ensures

pub variable_value-literal_value-first-requires : goal.variable_value-literal_value-first-requires
variable_value-literal_value-first-requires t c =
    let p = c.requires.teaches in
    let e = ap word_of c.at.ensures in
    let up : c.index-index.result ≤ c.args.n.M = omega (arith, c.index-index.ensures, c.requires.v_bound) in
    let side = (sides-in p c.index-index.result c.if-index-n-2.false up).0 in
    (omega (arith, e, side, c.decreases, c.index-index.ensures), (p, omega (arith, e, side, up)))

pub variable_value-literal_value-second-requires : goal.variable_value-literal_value-second-requires
variable_value-literal_value-second-requires t c =
    let p = c.requires.teaches in
    let e = ap word_of c.at-2.ensures in
    let up : c.index-index.result ≤ c.args.n.M = omega (arith, c.index-index.ensures, c.requires.v_bound) in
    let side = (sides-in p c.index-index.result c.if-index-n-2.false up).1 in
    (omega (arith, e, side, c.decreases, c.index-index.ensures), (p, omega (arith, e, side, up)))

pub variable_value-returns : goal.variable_value-returns
variable_value-returns t c =
    let a = c.args in
    let p = c.requires.teaches in
    let v = c.index-index.result in
    let up : c.index-index.result ≤ a.n.M = omega (arith, c.index-index.ensures, c.requires.v_bound) in
    let w = variable_in a.n a.gates.now a.state.now a.ins.now in
    both-sides (lit w (gate_of p v).rhs0) (lit w (gate_of p v).rhs1)
    (c.literal_value-first.ensures ∙ ap (λ (l : ℕ). code_of (lit w l)) (ap word_of c.at.ensures))
    (c.literal_value-second.ensures ∙ ap (λ (l : ℕ). code_of (lit w l)) (ap word_of c.at-2.ensures))
    c.and_of.ensures
    ∙ (ap code_of (sym (gate-worth p v c.if-index-n-2.false up))
    ∙ ap (λ (j : ℕ). code_of (w j)) c.index-index.ensures)
