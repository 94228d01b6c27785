-- An accepted header has counts at most the limit, so no sum is too large.
use mathlib.Core.Path.{sym, ap, ◌∙◌}
use Rattle.plan.specs.declared.Version.TheVariants.{V19}
use Rattle.plan.specs.Header.{words_by}
use Rattle.lines.proofs.header.Accepted.{accepted, not-accepted}
use Rattle.lines.proofs.header.words.Goals as goal

pub words_of-requires : goal.words_of-requires
words_of-requires c =
    (accepted V19 c.args.file.now _ _ _
    (sym c.in-Ok.is ∙ c.read_header.ensures)).small

pub returns-in-Err : goal.returns-in-Err
returns-in-Err c =
    let a = c.args in
    sym (ap (words_by a.table) (not-accepted V19 a.file.now _ (sym c.in-Err.is ∙ c.read_header.ensures)))

pub returns-in-Ok : goal.returns-in-Ok
returns-in-Ok c =
    let a = c.args in
    let took = accepted V19 a.file.now _ _ _ (sym c.in-Ok.is ∙ c.read_header.ensures) in
    c.words_of.ensures ∙ sym (ap (words_by a.table) took.head)
