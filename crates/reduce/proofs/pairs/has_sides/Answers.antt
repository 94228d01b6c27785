-- Whether gate i has the sides x and y. Each answer is rewritten with the tests that led to it.
use Prim.Native.Nat.{◌+◌, ◌*◌}
use mathlib.Core.Path.{sym, ap, ◌∙◌}
use borrow.Author.Tests.{eq-eqb, ne_eqb}
use lib.Dec.{eqb}
use lib.ListN.{get_or}
use Rattle.plan.specs.Literals.{word_of}
use mathlib.Core.Path.{◌∙◌}
use Rattle.reduce.proofs.pairs.has_sides.Goals as goal

pub returns-then-gates-i : goal.returns-then-gates-i
returns-then-gates-i c =
    let a = c.args in
    simp (ne_eqb (get_or a.gates.now (3 * a.i + 1) 0) (word_of a.x) (λ e. c.if-gates-i.true (e ∙ sym c.word.ensures)))

pub returns : goal.returns
returns c =
    let a = c.args in
    let first = eq-eqb (get_or a.gates.now (3 * a.i + 1) 0) (word_of a.x) (c.if-gates-i.false ∙ c.word.ensures) in
    rw first (ap (eqb (get_or a.gates.now (3 * a.i + 2) 0)) c.word-2.ensures)
