use mathlib.Core.Path.{sym, ◌∙◌}
use native.Mathlib.Omega.{arith}
use Rattle.lines.proofs.tail.Letters.{no_kind, no-comment, by_next}
use Rattle.lines.proofs.tail.starts_symbol.Goals as goal

pub returns-then-not-is_kind : goal.returns-then-not-is_kind
returns-then-not-is_kind c =
    let a = c.args in no_kind a.version a.file.now a.at (sym c.is_kind.ensures ∙ c.if-not-is_kind.true)

pub returns-then-b-ne99 : goal.returns-then-b-ne99
returns-then-b-ne99 c =
    let a = c.args in no-comment a.version a.file.now a.at (sym c.is_kind.ensures ∙ c.if-not-is_kind.false) c.if-b-ne99.true

pub overflow_add-at : goal.overflow_add-at
overflow_add-at c = omega arith

pub returns : goal.returns
returns c =
    let a = c.args in by_next a.version a.file.now a.at _ (sym c.is_kind.ensures ∙ c.if-not-is_kind.false) c.if-b-ne99.false c.ends.ensures
