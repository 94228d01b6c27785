-- The codes of `count` words from `first` on, and the byte after them; the position past it. Each answer is given by `part-put`.
use mathlib.Core.Path.{refl}
use Rattle.runs.proofs.trace.Parts.{part-lent, part-put}
use Rattle.runs.proofs.trace.put_part.Goals as goal

pub store-requires : goal.store-requires
store-requires c =
    let a = c.args in
    part-lent a.t.now a.out.now a.first a.count a.last a.at c.requires.count_in_bounds c.requires.count_in_bounds_2

pub returns : goal.returns
returns c =
    let a = c.args in
    record { value = refl; out_after = part-put a.t.now a.out.now a.first a.count a.last a.at c.requires.count_in_bounds c.requires.count_in_bounds_2 _ c.store.ensures }
