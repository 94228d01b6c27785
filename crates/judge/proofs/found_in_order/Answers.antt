-- Whether the tables are found to be in binary order. The answers are given by `not-looked` and `looked`.
use mathlib.Core.Path.{◌∙◌}
use Rattle.judge.proofs.Judging.{not-looked, looked}
use Rattle.judge.proofs.found_in_order.Goals as goal

pub returns-then-numbers : goal.returns-then-numbers
returns-then-numbers c = λ outputs resets bads constraints. not-looked _ _ c.if-numbers.true

pub returns : goal.returns
returns c =
    λ outputs resets bads constraints. c.in_binary_order.ensures outputs resets bads constraints ∙ looked _ _ c.if-numbers.false
