-- Whether the bytes of a list are `number` times `each`, as a true product. The answers are given by `none_each`, `other-number` and `rest-decides`.
use native.Mathlib.Omega.{arith}
use Rattle.step.proofs.codes.Products.{none_each, other-number, rest-decides}
use Rattle.step.proofs.codes.product_is.Goals as goal

pub returns-then-each-eq0 : goal.returns-then-each-eq0
returns-then-each-eq0 c = none_each _ c.args.number _ c.if-each-eq0.true

pub returns-then-bytes-each : goal.returns-then-bytes-each
returns-then-bytes-each c = other-number _ _ _ (omega arith) c.if-bytes-each.true

pub returns : goal.returns
returns c = rest-decides _ _ _ c.if-bytes-each.false
