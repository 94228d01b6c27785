-- The gates passed are hung or marked.
use mathlib.Core.Path.{◌≡◌, ◌∙◌}
use lib.ListN.{length}
use Rattle.judge.proofs.order.Spaces.{space-again}
use Rattle.judge.proofs.order.Watching.{watched-below}
use Rattle.judge.proofs.order.AllHung.{hang-more, hang-end}
use Rattle.judge.proofs.order.chains.hang_all.Goals as goal

pub loop-i-preserved : goal.loop-i-preserved
loop-i-preserved c =
    let A = c.args in
    let u = c.hang.new.t in
    let same : length u ≡ length c.loop-i.t = c.hang.auto.t in
    let more =
    hang-more A.gates.now A.t.now c.loop-i.t A.n A.a c.loop-i.i
    (space-again A.gates.now A.t.now c.loop-i.t A.n A.a c.loop-i.invariant.0 c.requires.0) c.loop-i-test.true
    c.requires.2 c.loop-i.invariant.2 c.loop-i.invariant.1 u c.hang.ensures in
    (same ∙ c.loop-i.invariant.0, more.0, more.1)

pub hang-requires : goal.hang-requires
hang-requires c =
    let A = c.args in
    let inn = c.loop-i-test.true in (
      space-again A.gates.now A.t.now c.loop-i.t A.n A.a c.loop-i.invariant.0 c.requires.0,
      inn,
      watched-below A.gates.now c.loop-i.t A.n A.a c.requires.0.inside c.loop-i.invariant.1.named c.loop-i.i inn,
    )

pub returns : goal.returns
returns c =
    let A = c.args in
    (hang-end A.gates.now c.loop-i.t A.n A.a c.loop-i.i c.loop-i-test.false c.loop-i.invariant.1, c.loop-i.invariant.2)
