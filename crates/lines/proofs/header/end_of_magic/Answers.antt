-- Each test is one byte.
use mathlib.Core.Path.{sym, ◌∙◌}
use Rattle.lines.proofs.header.end_of_magic.Goals as goal

pub returns-then-not-stands : goal.returns-then-not-stands
returns-then-not-stands c = simp (sym c.stands.ensures ∙ c.if-not-stands.true)

pub returns-then-not-ends : goal.returns-then-not-ends
returns-then-not-ends c =
    simp (
      sym c.stands.ensures ∙ c.if-not-stands.false,
      sym c.ends.ensures ∙ c.if-not-ends.true,
    )

pub returns : goal.returns
returns c =
    simp (
      sym c.stands.ensures ∙ c.if-not-stands.false,
      sym c.ends.ensures ∙ c.if-not-ends.false,
    )
