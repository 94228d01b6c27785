-- A turn passes one mark.
use borrow.Author.Tests.{not-false}
use Rattle.cards.proofs.head.Marking.{mark-fine}
use Rattle.cards.proofs.head.check_marks.Goals as goal

pub loop-i-preserved : goal.loop-i-preserved
loop-i-preserved c =
    let a = c.args in
    mark-fine a.file.now a.letter a.size a.n a.at c.loop-i.i c.loop-i.invariant c.loop-i-test.true
    c.mark_at.result
    c.mark_at.ensures (not-false _ c.if-not-mark_at.false-raw)
