-- The first thing that cards can't hold.
use borrow.Author.Tests.{not-true, not-false}
use Rattle.cards.proofs.writing.Holding.{has-tail, has-reset, has-bad, constraints-decide}
use Rattle.cards.proofs.writing.on_cards.Goals as goal

pub returns-then-tail-ne0 : goal.returns-then-tail-ne0
returns-then-tail-ne0 c =
    let a = c.args in
    has-tail a.n a.resets.now a.tail.now c.if-tail-ne0.true

pub all_zero-requires : goal.all_zero-requires
all_zero-requires c = c.requires

pub returns-then-not-all_zero : goal.returns-then-not-all_zero
returns-then-not-all_zero c =
    let a = c.args in
    has-reset a.n a.resets.now a.tail.now c.if-tail-ne0.false _ c.all_zero.ensures (not-true _ c.if-not-all_zero.true-raw)

pub returns-then-n-ne0 : goal.returns-then-n-ne0
returns-then-n-ne0 c =
    let a = c.args in
    has-bad a.n a.resets.now a.tail.now c.if-tail-ne0.false _ c.all_zero.ensures
    (not-false _ c.if-not-all_zero.false-raw) c.if-n-ne0.true

pub returns : goal.returns
returns c =
    let a = c.args in
    constraints-decide a.n a.resets.now a.tail.now c.if-tail-ne0.false _ c.all_zero.ensures
    (not-false _ c.if-not-all_zero.false-raw) c.if-n-ne0.false
