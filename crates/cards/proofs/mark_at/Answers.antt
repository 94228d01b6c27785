-- Another first byte, or the second decides.
use borrow.Author.Tests.{ne_eqb}
use Rattle.cards.proofs.Words.{other-first, second-decides}
use Rattle.cards.proofs.mark_at.Goals as goal

pub returns-then-file-at-ne80 : goal.returns-then-file-at-ne80
returns-then-file-at-ne80 c =
    let a = c.args in
    other-first a.file.now a.at a.letter (ne_eqb _ _ c.if-file-at-ne80.true)

pub returns : goal.returns
returns c =
    let a = c.args in
    second-decides a.file.now a.at a.letter c.if-file-at-ne80.false
