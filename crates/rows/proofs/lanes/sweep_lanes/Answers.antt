-- The planes of n gates, whose variables run on from `before`. The loop keeps `Swept`. `swept-more` carries it from turn to turn.
use Prim.Native.Nat.{◌+◌, ◌*◌}
use mathlib.Core.Path.{ap₂, ◌∙◌}
use Rattle.plan.specs.declared.Lit.{Lit}
use Rattle.plan.specs.Literals.{word_of}
use Rattle.plan.specs.Outcome.{put}
use Rattle.rows.specs.lanes.Words.{plane_words}
use Rattle.rows.specs.lanes.Working.{gate_planes}
use Rattle.rows.proofs.lanes.Turns.{first-there, second-there, swept-more}
use Rattle.rows.proofs.lanes.sweep_lanes.Goals as goal

pub put_gate-requires-clause-there : goal.put_gate-requires-clause-there
put_gate-requires-clause-there c =
    rw c.at-a.ensures (first-there c.requires c.loop-i.i c.loop-i-test.true c.loop-i.t c.loop-i.auto.t)

pub put_gate-requires-clause-there_2 : goal.put_gate-requires-clause-there_2
put_gate-requires-clause-there_2 c =
    rw c.at-b.ensures (second-there c.requires c.loop-i.i c.loop-i-test.true c.loop-i.t c.loop-i.auto.t)

pub loop-i-preserved : goal.loop-i-preserved
loop-i-preserved c =
    swept-more c.requires c.loop-i.i c.loop-i-test.true c.loop-i.t c.loop-i.auto.t c.loop-i.invariant _
    (c.put_gate.ensures
    ∙ ap₂ (λ (x y : Lit). put c.loop-i.t (4 * (c.args.before + c.loop-i.i)) (plane_words (gate_planes c.loop-i.t (word_of x) (word_of y))))
    c.at-a.ensures c.at-b.ensures)
