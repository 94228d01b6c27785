-- Whether it may be 0: its negation may be 1 then. The answer is that of the call below it.
use Prim.Native.Nat.{◌+◌, ◌<◌}
use mathlib.Core.Path.{sym, ap, ◌∙◌, subst}
use lib.ListN.{length, get_or}
use Rattle.plan.specs.declared.Lit.{Lit}
use Rattle.plan.specs.Literals.{word_of}
use Rattle.step.proofs.sweep.may_be_0.Goals as goal

pub may_be_1-requires : goal.may_be_1-requires
may_be_1-requires c =
    subst (λ (l : Lit). c.args.lits + word_of l < length c.args.t.now) (sym c.negated.ensures) c.requires

pub returns : goal.returns
returns c = c.may_be_1.ensures ∙ ap (λ (l : Lit). get_or c.args.t.now (c.args.lits + word_of l) 0) c.negated.ensures
