-- The two bytes of the first line and the file's last byte, in order.
use mathlib.Core.Path.{sym, ◌∙◌}
use Rattle.lines.proofs.tail.comment.Goals as goal

pub returns-then-not-stands : goal.returns-then-not-stands
returns-then-not-stands c = rw (sym c.stands.ensures ∙ c.if-not-stands.true)

pub returns-then-not-ends : goal.returns-then-not-ends
returns-then-not-ends c =
    rw (
      sym c.stands.ensures ∙ c.if-not-stands.false,
      sym c.ends.ensures ∙ c.if-not-ends.true,
    )

pub returns-then-not-ends-2 : goal.returns-then-not-ends-2
returns-then-not-ends-2 c =
    rw (
      sym c.stands.ensures ∙ c.if-not-stands.false,
      sym c.ends.ensures ∙ c.if-not-ends.false,
      sym c.ends-2.ensures ∙ c.if-not-ends-2.true,
    )

pub returns : goal.returns
returns c =
    rw (
      sym c.stands.ensures ∙ c.if-not-stands.false,
      sym c.ends.ensures ∙ c.if-not-ends.false,
      sym c.ends-2.ensures ∙ c.if-not-ends-2.false,
    )
