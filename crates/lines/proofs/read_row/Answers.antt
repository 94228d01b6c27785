-- The numbers passed are read: `turns` carries `Scan` from turn to turn, and `wrong-number`, `wrong-end` and `held` give the answer.
use Prim.Native.Nat.{◌+◌}
use mathlib.Core.Path.{refl, sym, ap, ◌∙◌}
use native.Mathlib.Omega.{arith}
use lib.Dec.{eqb}
use Rattle.lines.specs.Rows.{row}
use Rattle.plan.specs.declared.Lit.{Lit}
use Rattle.plan.specs.Literals.{in_range, word_of}
use Rattle.lines.proofs.RowLoop.{begins, inner, wrong-number, wrong-end, turns, held, not-accepted}
use Rattle.laws.proofs.Pairs.{passed-on}
use Rattle.lines.proofs.read_row.Goals as goal

pub returns-in_err-v : goal.returns-in_err-v
returns-in_err-v c =
    let a = c.args in
    let r = wrong-number c.loop-j.invariant _ c.loop-j-test.true
    (sym c.in_err-v.was ∙ c.read_number.ensures) in
    rw (passed-on _ c.from_residual.ensures.1)
    (record { value = r; by_index = λ ls next q. not-accepted (row a.file.now a.k a.defines a.m a.at) _ r _ ls next q })

pub returns-then-not-ends : goal.returns-then-not-ends
returns-then-not-ends c =
    let a = c.args in
    let r = wrong-end c.loop-j.invariant _ _
    c.loop-j-test.true
    (sym c.in_ok-v.was ∙ c.read_number.ensures)
    (sym c.ends.ensures ∙ c.if-not-ends.true) in
    record { value = r; by_index = λ ls next q. not-accepted (row a.file.now a.k a.defines a.m a.at) _ r _ ls next q }

pub overflow_add-pos : goal.overflow_add-pos
overflow_add-pos c =
    omega (
      arith,
      inner c.args.file.now _ (eqb (c.loop-j.j + 1) c.args.k)
          (sym c.ends.ensures ∙ c.if-not-ends.false),
    )

pub loop-j-preserved : goal.loop-j-preserved
loop-j-preserved c =
    turns c.loop-j.invariant _ _ c.loop-j-test.true (sym c.in_ok-v.was ∙ c.read_number.ensures) _ _
    c.requires.m_le_most c.requires.k_in_bounds
    (sym c.ends.ensures ∙ c.if-not-ends.false)
    (c.within.ensures ∙ ap (λ (l : Lit). in_range c.loop-j.d c.args.m (word_of l)) c.at.ensures)
    c.noted-bad.ensures

pub loop-j-init : goal.loop-j-init
loop-j-init c = let a = c.args in begins a.file.now a.k a.defines a.m a.at a.table.now a.base _ refl

pub returns-in-None-clause-by_index : goal.returns-in-None-clause-by_index
returns-in-None-clause-by_index c = held c.loop-j.invariant (omega arith) c.requires.m_le_most
