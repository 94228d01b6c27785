-- A gate that waits for none is marked, another comes first in a chain.
use Prim.Native.Nat.{ℕ, ◌-◌, ◌≤◌, ◌<◌}
use mathlib.Core.Path.{sym, ap, ◌∙◌, subst}
use native.Mathlib.Omega.{arith}
use lib.ListN.{length-set}
use Rattle.judge.specs.order.Waiting.{linked}
use Rattle.judge.proofs.order.Spaces.{gate-fits, top-word}
use Rattle.judge.proofs.order.Hanging.{hung-free, hung-first}
use Rattle.judge.proofs.order.chains.hang.Goals as goal

pub watch-w-requires : goal.watch-w-requires
watch-w-requires c =
    let A = c.args in
    (omega (arith, c.requires.0.gates-long, c.requires.1), gate-fits A.gates.now A.t.now A.n A.a A.i c.requires.0 c.requires.1)

pub mark-requires : goal.mark-requires
mark-requires c =
    let A = c.args in
    (top-word A.n A.a _ (omega (arith, c.requires.1)) c.requires.0.table-long, c.requires.0.small, omega (arith, c.requires.1))

pub returns-then-w-lt2147483648 : goal.returns-then-w-lt2147483648
returns-then-w-lt2147483648 c =
    let A = c.args in
    c.mark.ensures
    ∙ sym (hung-free A.gates.now A.t.now A.n A.a A.i (subst (λ (w : ℕ). w < 2147483648) c.watch-w.ensures c.if-w-lt2147483648.true))

pub bounds-t-n-3 : goal.bounds-t-n-3
bounds-t-n-3 c = simp length-set (omega arith)

pub returns : goal.returns
unfolding linked
returns c =
    let A = c.args in
    ap (linked A.t.now A.n A.a A.i) (c.ix-g.ensures ∙ ap (λ (w : ℕ). w - 2147483648) c.watch-w.ensures)
    ∙ sym (hung-first A.gates.now A.t.now A.n A.a A.i (subst (λ (w : ℕ). 2147483648 ≤ w) c.watch-w.ensures c.if-w-lt2147483648.false))
