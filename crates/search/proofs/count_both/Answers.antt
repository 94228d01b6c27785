use mathlib.Core.Path.{◌∙◌}
use Rattle.search.proofs.Beginning.{part-rest, larger-is}
use Rattle.search.proofs.count_both.Goals as goal

pub returns : goal.returns
returns c =
    let a = c.args in
    c.max.ensures
    ∙ larger-is a.split a.n.L _ a.resets.now c.requires c.lesser-first.ensures _ (part-rest _ a.resets.now) _ _
    c.count_resets-before.ensures c.count_resets-after.ensures
