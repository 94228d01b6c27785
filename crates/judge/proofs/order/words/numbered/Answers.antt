-- The constant, a number, or a chain.
use Prim.Native.Nat.{ℕ, ◌/◌, ◌<◌, ◌≤◌}
use mathlib.Core.Bool.{not}
use mathlib.Core.Path.{sym, ap, ◌∙◌, subst}
use native.Mathlib.Omega.{arith}
use lib.ListN.{get_or}
use lib.Dec.{eqb}
use Rattle.judge.proofs.order.Shown.{numbered-zero, numbered-low, numbered-high}
use Rattle.judge.proofs.order.words.numbered.Goals as goal

pub returns-then-v-eq0 : goal.returns-then-v-eq0
returns-then-v-eq0 c =
    sym (numbered-zero c.args.t.now (c.args.l / 2)
    (sym c.var_of-v.ensures ∙ c.if-v-eq0.true))

pub offset_bounds-t-v : goal.offset_bounds-t-v
offset_bounds-t-v c = omega arith

pub bounds-t-v : goal.bounds-t-v
bounds-t-v c = omega arith

pub offset_bounds-t-v-then-t-v-lt2147483648 : goal.offset_bounds-t-v-then-t-v-lt2147483648
offset_bounds-t-v-then-t-v-lt2147483648 c = omega arith

pub bounds-t-v-then-t-v-lt2147483648 : goal.bounds-t-v-then-t-v-lt2147483648
bounds-t-v-then-t-v-lt2147483648 c = omega arith

pub returns-then-t-v-lt2147483648 : goal.returns-then-t-v-lt2147483648
returns-then-t-v-lt2147483648 c =
    let A = c.args in
    let e = c.var_of-v.ensures in
    ap (λ (w : ℕ). not (eqb (get_or A.t.now w 0) 0)) e
    ∙ sym (numbered-low A.t.now (A.l / 2) (λ z. c.if-v-eq0.false (e ∙ z))
    (subst (λ (w : ℕ). get_or A.t.now w 0 < 2147483648) e c.if-t-v-lt2147483648.true))

pub returns : goal.returns
returns c =
    let A = c.args in
    let e = c.var_of-v.ensures in
    sym (numbered-high A.t.now (A.l / 2) (λ z. c.if-v-eq0.false (e ∙ z))
    (subst (λ (w : ℕ). 2147483648 ≤ get_or A.t.now w 0) e c.if-t-v-lt2147483648.false))
