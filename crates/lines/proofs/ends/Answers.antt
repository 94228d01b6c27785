-- Whether a number of a line ends here: with a new line after the last, with a space before the next. The answers are given by `past_end` and `told`.
use lib.ListN.{get_or, get_or-eq_default}
use Rattle.lines.proofs.EndBytes.{told, past_end}
use Rattle.lines.proofs.ends.Goals as goal

pub returns-then-file-at : goal.returns-then-file-at
returns-then-file-at c =
    let a = c.args in
    past_end a.last (get_or a.file.now a.at 0) (get_or-eq_default a.file.now 0 c.if-file-at.true)

pub returns-in-Line : goal.returns-in-Line
returns-in-Line c =
    let a = c.args in
    told a.last (get_or a.file.now a.at 0) _ _ c.class_of.ensures c.in-Line.is

pub returns-in-Space : goal.returns-in-Space
returns-in-Space c =
    let a = c.args in
    told a.last (get_or a.file.now a.at 0) _ _ c.class_of.ensures c.in-Space.is

pub returns-in-Zero : goal.returns-in-Zero
returns-in-Zero c =
    let a = c.args in
    told a.last (get_or a.file.now a.at 0) _ _ c.class_of.ensures c.in-Zero.is

pub returns-in-Digit : goal.returns-in-Digit
returns-in-Digit c =
    let a = c.args in
    told a.last (get_or a.file.now a.at 0) _ _ c.class_of.ensures c.in-Digit.is

pub returns-in-Print : goal.returns-in-Print
returns-in-Print c =
    let a = c.args in
    told a.last (get_or a.file.now a.at 0) _ _ c.class_of.ensures c.in-Print.is

pub returns-in-Rest : goal.returns-in-Rest
returns-in-Rest c =
    let a = c.args in
    told a.last (get_or a.file.now a.at 0) _ _ c.class_of.ensures c.in-Rest.is
