-- Each row's variable takes its number.
use mathlib.Core.Path.{◌≡◌, ap, ◌∙◌}
use native.Mathlib.Omega.{arith}
use lib.ListN.{length}
use Rattle.plan.specs.Literals.{index_of, halved}
use Rattle.laws.proofs.Tables.{head_at}
use Rattle.judge.proofs.at_end.Heads.{with-length}
use Rattle.judge.proofs.at_end.number_heads.Goals as goal

pub bounds-t-v : goal.bounds-t-v
bounds-t-v c =
    let v : c.index-v.result ≡ head_at c.args.table.now c.args.stride c.loop-i.i =
    c.index-v.ensures ∙ ap index_of (c.var.ensures ∙ ap halved c.at.ensures) in
    let fits = c.requires.by_index c.loop-i.i c.loop-i-test.true in
    omega (arith, v, fits, ap length c.loop-i.invariant ∙ with-length c.args.table.now c.args.stride c.args.first c.loop-i.i c.args.t.now)
