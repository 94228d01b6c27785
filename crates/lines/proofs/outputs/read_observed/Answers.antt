-- O, B and C lines of one literal, each list into its table. The answers are given by `outputs-refused`, `was-refused` and `list-told`.
use mathlib.Core.Bool.{false}
use mathlib.Core.List.{[]}
use Rattle.plan.specs.Bytes.{lines}
use Rattle.lines.proofs.outputs.Answers.{was_read, was-refused}
use Rattle.lines.proofs.outputs.Lists.{ListHeld, list-told, outputs-refused, bads-refused, constraints-last}
use Rattle.laws.proofs.Pairs.{passed-on}
use Rattle.lines.proofs.outputs.read_observed.Goals as goal

pub returns-in_err-after : goal.returns-in_err-after
returns-in_err-after c =
    let a = c.args in
    λ seen agrees. outputs-refused a.file.now a.n a.at seen a.outputs.now a.bads.now a.constraints.now _ _ _ _ _
    (was-refused (ListHeld a.n.M seen a.outputs.now _ _) (lines a.file.now 1 false a.n.M a.n.O [] a.at) _ _
    (list-told a.file.now a.n.M a.n.O a.at seen a.outputs.now _ _ _
    (c.read_lines.ensures seen agrees)) c.in_err-after.was)
    (passed-on _ c.from_residual.ensures.1)

pub returns-in_err-after-2 : goal.returns-in_err-after-2
returns-in_err-after-2 c =
    let a = c.args in
    λ seen agrees.
    let r₁ = was_read (ListHeld a.n.M seen a.outputs.now _ _) (lines a.file.now 1 false a.n.M a.n.O [] a.at) _ _
    (list-told a.file.now a.n.M a.n.O a.at seen a.outputs.now _ _ _
    (c.read_lines.ensures seen agrees)) c.in_ok-after.was in
    bads-refused a.file.now a.n a.at seen a.outputs.now a.bads.now a.constraints.now _ _ _ _ _ r₁
    (was-refused (ListHeld a.n.M seen a.bads.now _ _) (lines a.file.now 1 false a.n.M a.n.B [] _) _ _
    (list-told a.file.now a.n.M a.n.B _ seen a.bads.now _ _ _
    (c.read_lines-2.ensures seen r₁.held.agrees)) c.in_err-after-2.was)
    (passed-on _ c.from_residual-in_err-after-2.ensures.1)

pub returns : goal.returns
returns c =
    let a = c.args in
    λ seen agrees.
    let r₁ = was_read (ListHeld a.n.M seen a.outputs.now _ _) (lines a.file.now 1 false a.n.M a.n.O [] a.at) _ _
    (list-told a.file.now a.n.M a.n.O a.at seen a.outputs.now _ _ _
    (c.read_lines.ensures seen agrees))
    c.in_ok-after.was in
    let r₂ = was_read (ListHeld a.n.M seen a.bads.now _ _) (lines a.file.now 1 false a.n.M a.n.B [] _) _ _
    (list-told a.file.now a.n.M a.n.B _ seen a.bads.now _ _ _
    (c.read_lines-2.ensures seen
    r₁.held.agrees)) c.in_ok-after-2.was in
    constraints-last a.file.now a.n a.at seen a.outputs.now a.bads.now a.constraints.now _ _ _ _ _ r₁ r₂
    (list-told a.file.now a.n.M a.n.C _ seen a.constraints.now _ _ _
    (c.read_lines-3.ensures seen r₂.held.agrees))
