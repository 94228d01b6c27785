-- What made a literal what it is: the marks go first into the buffer, state first. Each answer is given by `explained`.
use mathlib.Core.Path.{◌∙◌}
use native.Mathlib.Omega.{arith}
use Rattle.explain.proofs.Explaining.{explained}
use Rattle.explain.proofs.explain_literal.Goals as goal

pub blame-requires : goal.blame-requires
blame-requires c =
    let p = c.requires in
    let one = c.mark.auto.t in
    let two = c.unmark.auto.t in
    record { a_in_bounds = p.gates-long; by_index = p.below; space = record { apart = omega arith; long = omega (arith, p.scratch, one, two) } }

pub returns : goal.returns
returns c =
    λ x latches outputs s i r settled.
    let p = c.requires in
    let same = c.blame.auto.t ∙ c.mark.auto.t ∙ c.unmark.auto.t in
    explained x latches outputs s i r p settled _ _ _ _ _ same
    c.unmark.ensures c.mark.ensures c.blame.ensures c.show.ensures c.show-2.ensures
