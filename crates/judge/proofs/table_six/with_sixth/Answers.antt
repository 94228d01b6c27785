-- The answer of `given::judge_in_order` or `check_in_order`, with table 6, which is too short or not. The answer is that of the call below it.
use mathlib.Core.Path.{◌≡◌, sym, ap, ap₂, ◌∙◌}
use mathlib.Core.Bool.{Bool, true, false, cond}
use Rattle.std.specs.Prelude.{Result, Ok, Err}
use borrow.Author.Tests.{not-true, not-false}
use Rattle.plan.specs.declared.Refusal.{Refusal}
use Rattle.plan.specs.declared.Refusal.TheVariants.{ShortTable}
use Rattle.judge.specs.table_six.Judged.{before_sixth, with_sixth}
use Rattle.judge.proofs.table_six.with_sixth.Goals as goal

long : (answer : Result Unit Refusal) (short : Bool) → short ≡ false → answer ≡ with_sixth answer short
long answer short e = sym (ap (with_sixth answer) e)

good : (answer : Result Unit Refusal) (short : Bool) → short ≡ true → answer ≡ Ok tt → Err (ShortTable 6) ≡ with_sixth answer short
good answer short e a = sym (ap₂ with_sixth a e)

refused : (answer : Result Unit Refusal) (short : Bool) (r : Refusal) (b q : Bool) → short ≡ true → answer ≡ Err r → b ≡ before_sixth r → b ≡ q → cond q (Err r) (Err (ShortTable 6)) ≡ with_sixth answer short
refused answer short r b q e a before h =
    ap (λ (x : Bool). cond x (Err r) (Err (ShortTable 6))) (sym h ∙ before) ∙ sym (ap₂ with_sixth a e)

pub returns-then-not-short : goal.returns-then-not-short
returns-then-not-short c = let a = c.args in long a.answer a.short (not-true a.short c.if-not-short.true-raw)

pub returns-then-before_sixth : goal.returns-then-before_sixth
returns-then-before_sixth c =
    let a = c.args in
    refused a.answer a.short c.in-Err.refusal c.before_sixth.result true
    (not-false a.short c.if-not-short.false-raw) c.in-Err.is
    c.before_sixth.ensures c.if-before_sixth.true

pub returns-in-Ok : goal.returns-in-Ok
returns-in-Ok c =
    let a = c.args in good a.answer a.short (not-false a.short c.if-not-short.false-raw)
    c.in-Ok.is

pub returns-else-before_sixth : goal.returns-else-before_sixth
returns-else-before_sixth c =
    let a = c.args in
    refused a.answer a.short c.in-Err.refusal c.before_sixth.result false
    (not-false a.short c.if-not-short.false-raw) c.in-Err.is
    c.before_sixth.ensures c.if-before_sixth.false
