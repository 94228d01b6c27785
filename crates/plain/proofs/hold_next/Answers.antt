-- The next states go into the first words of a table, as the state is asked for until the last of them is known. The loop keeps `Filled`.
-- `filled-front` carries it from turn to turn, and `filled-all` gives the answer.
use Prim.Native.Nat.{ℕ}
use mathlib.Core.Path.{ap, ◌∙◌}
use native.Mathlib.Omega.{arith}
use Rattle.plan.specs.Literals.{word_of}
use Rattle.plan.specs.Step.{code_of, lit}
use Rattle.step.proofs.values.Filling.{filled-front, filled-all}
use Rattle.plain.specs.Asked.{variable_in}
use Rattle.plain.proofs.hold_next.Goals as goal

pub literal_value-requires : goal.literal_value-requires
literal_value-requires c =
    let e = ap word_of c.at.ensures in
    record { teaches = c.requires.teaches; l_bound = omega (arith, e, c.requires.nexts.up c.loop-i.i c.loop-i-test.true) }

pub loop-i-preserved : goal.loop-i-preserved
loop-i-preserved c =
    let worth = variable_in c.args.n c.args.gates.now c.args.state.now c.args.ins.now in
    filled-front _ _ c.loop-i.i c.loop-i.t _ c.loop-i.invariant (omega (arith, c.requires.nexts.room))
    (c.literal_value.ensures ∙ ap (λ (l : ℕ). code_of (lit worth l)) (ap word_of c.at.ensures))

pub returns : goal.returns
returns c = filled-all _ _ _ c.args.n.L c.loop-i.i c.loop-i.t c.loop-i.invariant (omega arith)
