-- The codes of `count` words from `first` on go into a part of a buffer. Each answer is given by `part-put`.
use Rattle.explain.proofs.Cleared.{part-put}
use Rattle.explain.proofs.show.Goals as goal

pub returns : goal.returns
returns c =
    let a = c.args in
    part-put a.t.now a.out.now a.first a.count a.at c.requires.count_in_bounds c.requires.count_in_bounds_2 _ c.store.ensures
