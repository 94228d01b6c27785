use Prim.Native.Nat.{◌+◌, ◌*◌}
use mathlib.Core.Path.{sym, ap₂, ◌∙◌, subst}
use native.Mathlib.Omega.{arith}
use Rattle.plan.specs.declared.Lit.{Lit}
use Rattle.plan.specs.Literals.{word_of}
use Rattle.plan.specs.Outcome.{put}
use Rattle.step.specs.sweep.Lookup.{and_words, Inside}
use Rattle.step.proofs.sweep.Sweeping.{first-in, second-in, settled-more}
use Rattle.step.proofs.sweep.settle_gates.Goals as goal

pub put_and-requires-clause-inside : goal.put_and-requires-clause-inside
put_and-requires-clause-inside c =
    subst (λ (l : Lit). Inside 0 c.loop-i.t (word_of l)) (sym c.at-a.ensures)
    (first-in c.requires c.loop-i.i c.loop-i-test.true c.loop-i.t c.loop-i.invariant.1)

pub put_and-requires-clause-inside_2 : goal.put_and-requires-clause-inside_2
put_and-requires-clause-inside_2 c =
    subst (λ (l : Lit). Inside 0 c.loop-i.t (word_of l)) (sym c.at-b.ensures)
    (second-in c.requires c.loop-i.i c.loop-i-test.true c.loop-i.t c.loop-i.invariant.1)

pub loop-i-preserved : goal.loop-i-preserved
loop-i-preserved c =
    let to = c.word-start.result + 2 * c.loop-i.i in (
      c.loop-i.invariant.0,
      c.put_and.auto.t ∙ c.loop-i.invariant.1,
      settled-more c.requires c.loop-i.i c.loop-i-test.true c.loop-i.t c.loop-i.invariant.1 c.loop-i.invariant.2 to _
          (omega arith) c.put_and.auto.t
          (c.put_and.ensures ∙ ap₂ (λ (l m : Lit). put c.loop-i.t to (and_words 0 c.loop-i.t (word_of l) (word_of m))) c.at-a.ensures c.at-b.ensures),
    )
