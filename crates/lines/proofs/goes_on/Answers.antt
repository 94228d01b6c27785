-- What stands after a number, where more of them must follow or may. The answers are given by `past_end` and `told`.
use mathlib.Core.Path.{ap, sym, ◌∙◌}
use mathlib.Core.Bool.{Bool, cond}
use lib.ListN.{get_or, get_or-eq_default}
use Rattle.lines.specs.declared.Going.TheVariants.{Stop, On, Wrong}
use Rattle.lines.proofs.Numbers.{told, past_end}
use Rattle.lines.proofs.goes_on.Goals as goal

pub returns-then-file-at : goal.returns-then-file-at
returns-then-file-at c =
    let a = c.args in past_end a.must a.may (get_or a.file.now a.at 0) (get_or-eq_default a.file.now 0 c.if-file-at.true)

pub returns-then-must : goal.returns-then-must
returns-then-must c =
    let a = c.args in sym (ap (λ (b : Bool). cond b Wrong Stop) c.if-must.true)
    ∙ told a.must a.may (get_or a.file.now a.at 0) _ _ c.class_of.ensures c.in-Line.is

pub returns-then-may : goal.returns-then-may
returns-then-may c =
    let a = c.args in sym (ap (λ (b : Bool). cond b On Wrong) c.if-may.true)
    ∙ told a.must a.may (get_or a.file.now a.at 0) _ _ c.class_of.ensures c.in-Space.is

pub returns-else-must : goal.returns-else-must
returns-else-must c =
    let a = c.args in sym (ap (λ (b : Bool). cond b Wrong Stop) c.if-must.false)
    ∙ told a.must a.may (get_or a.file.now a.at 0) _ _ c.class_of.ensures c.in-Line.is

pub returns-else-may : goal.returns-else-may
returns-else-may c =
    let a = c.args in sym (ap (λ (b : Bool). cond b On Wrong) c.if-may.false)
    ∙ told a.must a.may (get_or a.file.now a.at 0) _ _ c.class_of.ensures c.in-Space.is

pub returns-in-Zero : goal.returns-in-Zero
returns-in-Zero c =
    let a = c.args in told a.must a.may (get_or a.file.now a.at 0) _ _
    c.class_of.ensures c.in-Zero.is

pub returns-in-Digit : goal.returns-in-Digit
returns-in-Digit c =
    let a = c.args in told a.must a.may (get_or a.file.now a.at 0) _ _
    c.class_of.ensures c.in-Digit.is

pub returns-in-Print : goal.returns-in-Print
returns-in-Print c =
    let a = c.args in told a.must a.may (get_or a.file.now a.at 0) _ _
    c.class_of.ensures c.in-Print.is

pub returns-in-Rest : goal.returns-in-Rest
returns-in-Rest c =
    let a = c.args in told a.must a.may (get_or a.file.now a.at 0) _ _
    c.class_of.ensures c.in-Rest.is
