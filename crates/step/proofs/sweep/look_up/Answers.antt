-- The values of n literals of a table, from `start` on by `stride`, go into words from `first` on, which lie before the literals'. The loop keeps
-- `Filled`. `next-looked` carries it from turn to turn, and `all-looked` gives the answer.
use mathlib.Core.Path.{ap, ◌∙◌}
use native.Mathlib.Omega.{arith}
use Rattle.plan.specs.declared.Lit.{Lit}
use Rattle.plan.specs.Literals.{word_of}
use Rattle.step.specs.sweep.Lookup.{word_at}
use Rattle.step.proofs.sweep.Lookups.{next-looked, all-looked}
use Rattle.step.proofs.sweep.look_up.Goals as goal

pub loop-i-preserved : goal.loop-i-preserved
loop-i-preserved c =
    next-looked c.requires c.loop-i.i c.loop-i.t c.loop-i-test.true c.loop-i.invariant _
    (c.value_of.ensures ∙ ap (λ (l : Lit). word_at c.args.lits c.loop-i.t (word_of l)) c.at.ensures)

pub returns : goal.returns
returns c = all-looked c.requires c.loop-i.i c.loop-i.t c.loop-i.invariant (omega arith)
