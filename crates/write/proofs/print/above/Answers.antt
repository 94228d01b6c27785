-- A difference of words, by their literals.
use mathlib.Core.Path.{ap₂, ◌∙◌}
use Prim.Native.Nat.{◌-◌}
use Rattle.plan.specs.declared.Lit.{Lit}
use Rattle.plan.specs.Literals.{word_of}
use Rattle.write.proofs.print.above.Goals as goal

pub returns : goal.returns
returns c =
    c.minus.ensures
    ∙ ap₂ (λ (a b : Lit). word_of a - word_of b) c.at.ensures c.at-2.ensures
