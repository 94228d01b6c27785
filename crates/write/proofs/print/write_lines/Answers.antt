-- Each turn writes one word.
use Prim.Native.Nat.{◌*◌}
use Rattle.write.proofs.print.Turns.{word_taken, none-printed, word_fits, one-printed}
use Rattle.write.proofs.print.write_lines.Goals as goal

pub loop-word-init : goal.loop-word-init
loop-word-init c =
    let a = c.args in
    none-printed a.table.now a.k a.n a.out.now a.at c.requires.k_nonzero c.requires.n_in_bounds c.requires.table_in_bounds

pub write_word-next-requires : goal.write_word-next-requires
write_word-next-requires c =
    let a = c.args in
    let l = c.loop-word in
    let word = word_taken a.table.now (a.k * a.n) l.word-index c.requires.n_in_bounds c.loop-word-test.true in
    rw word.1 (word_fits a.table.now a.k a.n a.out.now a.at l.out l.next l.left l.word-index l.invariant word.0)

pub loop-word-preserved : goal.loop-word-preserved
loop-word-preserved c =
    let a = c.args in
    let l = c.loop-word in
    let word = word_taken a.table.now (a.k * a.n) l.word-index c.requires.n_in_bounds c.loop-word-test.true in
    let e = c.write_word-next.ensures in
    one-printed a.table.now a.k a.n a.out.now a.at l.out l.next l.left l.word-index l.invariant _ _ _ word.0
    (rw word.1 at e.out_after) (rw word.1 at e.value) c.following-left.ensures
