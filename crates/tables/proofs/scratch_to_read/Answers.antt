-- The words of table 5 to read a file: in binary those of the marks of symbols alone. The answer is that of the call below it.
use mathlib.Core.Path.{sym, ap, ◌∙◌}
use mathlib.Core.Bool.{Bool}
use Rattle.plan.specs.Header.{scratch_to_read}
use Rattle.plan.specs.Outcome.{form_of}
use Rattle.tables.proofs.scratch_to_read.Goals as goal

pub returns-then-binary : goal.returns-then-binary
returns-then-binary c =
    let a = c.args in
    ap (λ (b : Bool). scratch_to_read (form_of b) a.n) (sym c.if-binary.true)

pub returns : goal.returns
returns c =
    let a = c.args in
    c.scratch_to_work.ensures ∙ ap (λ (b : Bool). scratch_to_read (form_of b) a.n) (sym c.if-binary.false)
