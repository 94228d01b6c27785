-- Every gate passed rises.
use mathlib.Core.Path.{sym}
use native.Mathlib.Omega.{arith}
use Rattle.laws.proofs.Tables.{gate_at}
use Rattle.judge.proofs.order.Rising.{rises, falls-first, falls-second, rises-more, rises-all, falls-all}
use Rattle.judge.proofs.order.ascending.Goals as goal

pub returns-then-v-var_of : goal.returns-then-v-var_of
returns-then-v-var_of c =
    let G = c.args.gates.now in
    let i = c.loop-i.i in
    sym (falls-all G c.args.a i (omega arith)
    (falls-first (gate_at G i) (omega (arith, c.var_of-v.ensures, c.var_of.ensures, c.if-v-var_of.true))))

pub returns-then-v-var_of-2 : goal.returns-then-v-var_of-2
returns-then-v-var_of-2 c =
    let G = c.args.gates.now in
    let i = c.loop-i.i in
    sym (falls-all G c.args.a i (omega arith)
    (falls-second (gate_at G i)
    (omega (arith, c.var_of-v.ensures, c.var_of-in-loop-i.ensures, c.if-v-var_of-2.true))))

pub loop-i-preserved : goal.loop-i-preserved
loop-i-preserved c =
    let G = c.args.gates.now in
    let i = c.loop-i.i in
    rises-more G i c.loop-i.invariant
    (rises (gate_at G i)
    (omega (arith, c.var_of-v.ensures, c.var_of.ensures, c.if-v-var_of.false))
    (omega (arith, c.var_of-v.ensures, c.var_of-in-loop-i.ensures, c.if-v-var_of-2.false)))

pub returns : goal.returns
returns c =
    sym (rises-all c.args.gates.now c.args.a c.loop-i.i (omega arith)
    c.loop-i.invariant)
