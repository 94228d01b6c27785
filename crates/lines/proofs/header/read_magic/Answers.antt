-- Each test is one byte.
use mathlib.Core.Path.{sym, ◌∙◌}
use Rattle.lines.proofs.header.read_magic.Goals as goal

pub returns-then-not-stands : goal.returns-then-not-stands
returns-then-not-stands c = simp (sym c.stands.ensures ∙ c.if-not-stands.true)

pub returns-then-stands : goal.returns-then-stands
returns-then-stands c =
    simp (
      sym c.stands.ensures ∙ c.if-not-stands.false,
      sym c.stands-2.ensures ∙ c.if-stands.true,
    )
    c.end_of_magic.ensures

pub returns-then-stands-2 : goal.returns-then-stands-2
returns-then-stands-2 c =
    simp (
      sym c.stands.ensures ∙ c.if-not-stands.false,
      sym c.stands-2.ensures ∙ c.if-stands.false,
      sym c.stands-3.ensures ∙ c.if-stands-2.true,
    )
    c.end_of_magic-then-stands-2.ensures

pub returns : goal.returns
returns c =
    simp (
      sym c.stands.ensures ∙ c.if-not-stands.false,
      sym c.stands-2.ensures ∙ c.if-stands.false,
      sym c.stands-3.ensures ∙ c.if-stands-2.false,
    )
