-- A turn adds one number.
use Rattle.cards.proofs.fill.Filling.{one-worded}
use Rattle.cards.proofs.fill.fill_words.Goals as goal

pub loop-i-preserved : goal.loop-i-preserved
loop-i-preserved c =
    let a = c.args in
    one-worded a.file.now a.at a.n a.table.now c.loop-i.table c.loop-i.i c.loop-i.invariant c.requires.n_in_bounds_2 c.loop-i-test.true _ c.word_at.ensures
