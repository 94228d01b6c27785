-- A literal under its variable's number. Each answer is given by `by_number`.
use mathlib.Core.Path.{ap, ◌∙◌}
use Rattle.plan.specs.Literals.{var_at, doubled, signed_as}
use Rattle.convert.proofs.renumber.Literals.{by_number}
use Rattle.convert.proofs.renumber.renumbered.Goals as goal

pub returns : goal.returns
returns c =
    let var = c.at.ensures ∙ ap var_at c.number_of.ensures in
    let lit = c.lit.ensures ∙ ap doubled var in
    c.signed_as.ensures ∙ (ap (λ l. signed_as l c.args.l) lit ∙ by_number c.args.t.now c.args.l c.requires)
