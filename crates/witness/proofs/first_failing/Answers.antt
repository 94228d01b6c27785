-- Fillings are tried from 0 up: those below `tried` all show a 1, and the one that does not is the first.
use mathlib.Core.Path.{sym, ◌∙◌}
use native.Mathlib.Omega.{arith}
use borrow.Author.Count.{below_more}
use Rattle.laws.proofs.Fillings.Trying.{none_told, some-told}
use Rattle.witness.proofs.first_failing.Goals as goal

pub returns-then-not-filling_shows : goal.returns-then-not-filling_shows
returns-then-not-filling_shows c =
    λ inputs r.
    sym (some-told _ 0 c.args.most c.loop-tried.tried (record {
      from = omega arith;
      within = omega arith;
      fails = sym (c.filling_shows.ensures inputs r) ∙ c.if-not-filling_shows.true;
      before = λ i h q. c.loop-tried.invariant.1 inputs r i q;
    }))

pub loop-tried-preserved : goal.loop-tried-preserved
loop-tried-preserved c = (
  c.filling_shows.auto.scratch ∙ c.loop-tried.invariant.0,
  λ inputs r. below_more _ _ (c.loop-tried.invariant.1 inputs r) (sym (c.filling_shows.ensures inputs r) ∙ c.if-not-filling_shows.false),
)

pub returns : goal.returns
returns c = λ inputs r. sym (none_told _ 0 c.args.most (λ i h q. c.loop-tried.invariant.1 inputs r i (omega arith)))
