-- 23: the least variable whose value is wrong. The answers are given by `leaf-refused` and `leaves-good`.
use mathlib.Core.Path.{sym, ◌∙◌}
use Rattle.rewire.proofs.Wrong.{leaf-refused, leaves-good, leaves-shown}
use Rattle.laws.proofs.Pairs.{passed-on}
use Rattle.rewire.proofs.wrong_value.Goals as goal

pub returns-in_err-wrong_leaf : goal.returns-in_err-wrong_leaf
returns-in_err-wrong_leaf c =
    passed-on _ c.from_residual.ensures.1
    ∙ leaf-refused c.args.gates.now c.args.a c.args.base c.args.values.now c.requires.ordered.binary _
    (sym c.in_err-wrong_leaf.was ∙ c.wrong_leaf.ensures)

pub wrong_gate-requires : goal.wrong_gate-requires
wrong_gate-requires c =
    record { ordered = c.requires.ordered; shows = leaves-shown _ _ (sym c.in_ok-wrong_leaf.was ∙ c.wrong_leaf.ensures) }

pub returns : goal.returns
returns c =
    c.wrong_gate.ensures
    ∙ leaves-good c.args.gates.now c.args.a c.args.base c.args.values.now c.requires.ordered.binary
    (sym c.in_ok-wrong_leaf.was ∙ c.wrong_leaf.ensures)
