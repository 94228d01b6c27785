-- Whether the inputs are `rows` vectors of `each` codes. The answers are given by `whole-not` and `whole_is`.
use mathlib.Core.Path.{◌∙◌}
use Rattle.rows.proofs.Lists.{product_small, whole-not, whole_is}
use Rattle.rows.proofs.whole_rows.Goals as goal

pub overflow_mul-rows : goal.overflow_mul-rows
overflow_mul-rows c =
    record { fits = product_small c.args.rows c.args.each c.requires.rows_bound c.requires.each_le_most }

pub returns-then-ins-rows : goal.returns-then-ins-rows
returns-then-ins-rows c =
    let a = c.args in
    whole-not a.ins.now a.rows a.each c.if-ins-rows.true

pub returns : goal.returns
returns c =
    let a = c.args in
    c.only_codes.ensures ∙ whole_is a.ins.now a.rows a.each c.if-ins-rows.false
