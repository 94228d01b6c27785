-- Whether both engines answer the same, and leave the same state and the same lines. The answers are given by `second-fails` and `same-is`.
use mathlib.Core.Path.{sym, ◌∙◌}
use mathlib.Core.Bool.{Bool}
use borrow.Author.Tests.{not-true, not-false}
use Rattle.runs.specs.comparing.Both.{same_bytes, same_answer}
use Rattle.runs.proofs.comparing.Parting.{same-is, second-fails, third-decides}
use Rattle.runs.proofs.comparing.agree.Goals as goal

pub returns-then-not-same : goal.returns-then-not-same
returns-then-not-same c =
    let x : Bool =
    same_answer c.args.part c.args.plain in
    let y : Bool =
    same_bytes c.args.state.now c.args.twin.now in
    let z : Bool =
    same_bytes c.args.out.now c.args.again.now in
    second-fails (x) (y) (z) (sym c.same_answer.ensures ∙ not-false _ c.if-not-same_answer.false-raw)
    (sym (same-is _ _ _ c.same.ensures) ∙ not-true _ c.if-not-same.true-raw)

pub returns : goal.returns
returns c =
    let x : Bool =
    same_answer c.args.part c.args.plain in
    let y : Bool =
    same_bytes c.args.state.now c.args.twin.now in
    let z : Bool =
    same_bytes c.args.out.now c.args.again.now in
    same-is _ _ _ c.same-2.ensures
    ∙ third-decides (x) (y) (z) (sym c.same_answer.ensures ∙ not-false _ c.if-not-same_answer.false-raw)
    (sym (same-is _ _ _ c.same.ensures) ∙ not-false _ c.if-not-same.false-raw)
