-- The left side of retained gate i: the variables of retained gates run on from base. Each answer is given by `whole`.
use Prim.Native.Nat.{◌+◌}
use mathlib.Core.Path.{ap, ◌∙◌}
use native.Mathlib.Omega.{arith}
use Rattle.plan.specs.Literals.{word_of, doubled}
use Rattle.reduce.proofs.pairs.Roots.{whole}
use Rattle.reduce.proofs.pairs.left_side.Goals as goal

pub returns : goal.returns
returns c =
    ap word_of (c.lit.ensures ∙ ap doubled c.at.ensures) ∙ whole (c.args.base + c.args.i) (omega (arith, c.requires))
