-- Whether a list is `number` vectors of `each` codes. The answers are given by `test-fails` and `test-passes`.
use mathlib.Core.Path.{refl, sym, ◌∙◌}
use Rattle.judge.proofs.binary_order.Steps.{test-fails, test-passes}
use Rattle.step.proofs.codes.whole_list.Goals as goal

pub returns-then-not-product_is : goal.returns-then-not-product_is
returns-then-not-product_is c = test-fails _ _ _ _ refl c.product_is.ensures c.if-not-product_is.true-raw

pub returns : goal.returns
returns c = c.all_codes.ensures ∙ sym (test-passes _ _ _ _ refl c.product_is.ensures c.if-not-product_is.false-raw)
