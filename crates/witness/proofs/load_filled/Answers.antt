-- A vector of filling number k goes into words from `first` on; x is the number of its first x. `count-more` and `filled_more` carry the invariant from
-- turn to turn, and `filled-all` and `filled-words` give the answer.
use mathlib.Core.Path.{ap, ◌∙◌}
use native.Mathlib.Omega.{arith}
use lib.ListN.{length, get_or}
use Rattle.plan.specs.Outcome.{put}
use Rattle.step.proofs.values.Filling.{filled_more, filled-all}
use Rattle.laws.proofs.Fillings.Counting.{count-more, count-take, x-small}
use Rattle.witness.proofs.Words.{filled_word, filled-word-at, filled-words}
use Rattle.witness.proofs.load_filled.Goals as goal

pub filled_word-requires : goal.filled_word-requires
filled_word-requires c = omega (arith, c.requires.few, c.loop-i.invariant.0, count-take c.loop-i.i c.args.codes.now)

pub overflow_add-next : goal.overflow_add-next
overflow_add-next c =
    let codes = c.args.codes.now in
    omega (arith, c.x_of-next.ensures, x-small (get_or codes c.loop-i.i 0), c.requires.few, c.loop-i.invariant.0, count-take c.loop-i.i codes)

pub loop-i-preserved : goal.loop-i-preserved
loop-i-preserved c =
    let codes = c.args.codes.now in
    let more = c.loop-i-test.true in (
      omega (arith, c.x_of-next.ensures, c.loop-i.invariant.0, count-more codes c.loop-i.i more),
      filled_more _ _ _ c.loop-i.i c.loop-i.t _ c.loop-i.invariant.1 (omega (arith, c.requires.room, more))
          (c.filled_word.ensures
          ∙ (ap (filled_word (get_or codes c.loop-i.i 0) c.args.k) c.loop-i.invariant.0
          ∙ filled-word-at c.args.k c.args.x codes c.loop-i.i more)),
    )

pub returns-clause-t_after : goal.returns-clause-t_after
returns-clause-t_after c =
    filled-all _ _ _ (length c.args.codes.now) c.loop-i.i c.loop-i.t c.loop-i.invariant.1 (omega arith)
    ∙ ap (put c.args.t.now c.args.first) (filled-words c.args.k c.args.x c.args.codes.now)
