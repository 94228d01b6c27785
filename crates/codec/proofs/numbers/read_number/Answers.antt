-- Each arm of the match says what the number is by the class of its first byte.
use mathlib.Core.Path.{sym, ◌∙◌}
use native.Mathlib.Omega.{arith}
use Rattle.plan.specs.declared.Class.TheVariants.{Line, Space, Zero, Print, Rest}
use Rattle.codec.proofs.numbers.Scan.{past_end, starting}
use Rattle.codec.proofs.numbers.read_number.Goals as goal

pub returns-then-file-at : goal.returns-then-file-at
returns-then-file-at c =
    let a = c.args in
    past_end a.file.now a.at c.if-file-at.true

pub read_digits-requires : goal.read_digits-requires
read_digits-requires c =
    record { at_in_bounds = omega (arith, c.if-file-at.false); at_value = sym c.class_of.ensures ∙ c.in-Digit.is }

pub returns-in-Zero : goal.returns-in-Zero
returns-in-Zero c =
    let a = c.args in
    starting a.file.now a.at Zero (sym c.in-Zero.is ∙ c.class_of.ensures)

pub returns-in-Digit : goal.returns-in-Digit
returns-in-Digit c = c.read_digits.ensures

pub returns-in-Line : goal.returns-in-Line
returns-in-Line c =
    let a = c.args in
    starting a.file.now a.at Line (sym c.in-Line.is ∙ c.class_of.ensures)

pub returns-in-Space : goal.returns-in-Space
returns-in-Space c =
    let a = c.args in
    starting a.file.now a.at Space (sym c.in-Space.is ∙ c.class_of.ensures)

pub returns-in-Print : goal.returns-in-Print
returns-in-Print c =
    let a = c.args in
    starting a.file.now a.at Print (sym c.in-Print.is ∙ c.class_of.ensures)

pub returns-in-Rest : goal.returns-in-Rest
returns-in-Rest c =
    let a = c.args in
    starting a.file.now a.at Rest (sym c.in-Rest.is ∙ c.class_of.ensures)
