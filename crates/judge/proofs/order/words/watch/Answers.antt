-- The first right side's word if that names a gate, else the second one's.
use Prim.Native.Nat.{ℕ, ◌<◌, ◌≤◌}
use mathlib.Core.Path.{sym, ap, ◌∙◌, subst}
use lib.ListN.{get_or}
use Rattle.judge.proofs.order.Watching.{watched-low, watched-high}
use Rattle.judge.proofs.order.words.watch.Goals as goal

pub returns-then-w-lt2147483648 : goal.returns-then-w-lt2147483648
returns-then-w-lt2147483648 c =
    let A = c.args in
    ap (λ (v : ℕ). get_or A.t.now v 0) c.var_of-then-w-lt2147483648.ensures
    ∙ sym (watched-low A.gates.now A.t.now A.i
    (subst (λ (v : ℕ). get_or A.t.now v 0 < 2147483648) c.var_of.ensures c.if-w-lt2147483648.true))

pub returns : goal.returns
returns c =
    let A = c.args in
    ap (λ (v : ℕ). get_or A.t.now v 0) c.var_of.ensures
    ∙ sym (watched-high A.gates.now A.t.now A.i
    (subst (λ (v : ℕ). 2147483648 ≤ get_or A.t.now v 0) c.var_of.ensures c.if-w-lt2147483648.false))
