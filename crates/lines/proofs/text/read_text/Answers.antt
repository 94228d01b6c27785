-- I lines of one literal, L of two and possibly a reset, O, B and C of one, A of three, each list into its table. The answers are given by
-- `agrees-none`, `rows_told` and `inputs-refused`.
use mathlib.Core.Bool.{true}
use mathlib.Core.List.{[]}
use Rattle.plan.specs.Circuit.{heads}
use Rattle.plan.specs.Bytes.{lines, latch_lines, latch_form}
use Rattle.plan.specs.Header.{more_resets}
use Rattle.laws.proofs.Marks.{agrees-none}
use Rattle.lines.specs.outputs.Observed.{observed_at}
use Rattle.lines.proofs.outputs.Answers.{was_read, was-refused}
use Rattle.lines.proofs.outputs.Lists.{AllHeld, observed-told}
use Rattle.lines.proofs.text.Parts.{RowsHeld, LatchesHeld, rows_told, latches-told}
use Rattle.lines.proofs.text.Body.{both, inputs-refused, latches-refused, observed-refused, gates-last}
use Rattle.laws.proofs.Pairs.{passed-on}
use Rattle.lines.proofs.text.read_text.Goals as goal

pub returns-in_err-after : goal.returns-in_err-after
returns-in_err-after c =
    let a = c.args in
    let unmarked = agrees-none _ a.marks.now c.requires.by_index in
    let told₁ = rows_told a.file.now 1 a.n.M a.n.I a.at [] a.inputs.now _ _ _
    (c.read_lines.ensures [] unmarked) in
    inputs-refused a.version a.file.now a.n a.at _ _ _ _
    (was-refused (RowsHeld 1 a.n.M [] a.inputs.now _ _) (lines a.file.now 1 true a.n.M a.n.I [] a.at) _ _ told₁
    c.in_err-after.was)
    (passed-on _ c.from_residual.ensures.1)

pub returns-in_err-after-2 : goal.returns-in_err-after-2
returns-in_err-after-2 c =
    let a = c.args in
    let unmarked = agrees-none _ a.marks.now c.requires.by_index in
    let told₁ = rows_told a.file.now 1 a.n.M a.n.I a.at [] a.inputs.now _ _ _
    (c.read_lines.ensures [] unmarked) in
    let a₁ = was_read (RowsHeld 1 a.n.M [] a.inputs.now _ _) (lines a.file.now 1 true a.n.M a.n.I [] a.at) _ _ told₁
    c.in_ok-after.was in
    let told₂ = latches-told a.version a.file.now a.n.M _ a.n.L _ (heads a₁.value) a.latches.now a.resets.now _ _ _ _
    c.more_resets-more.ensures
    (c.read_latches.ensures (heads a₁.value) a₁.held.agrees) in
    latches-refused a.version a.file.now a.n a.at _ _ _ _ a₁
    (was-refused (LatchesHeld a.n.M (heads a₁.value) a.latches.now a.resets.now _ _ _)
    (latch_lines a.file.now (latch_form 2 true (more_resets a.version)) a.n.M a.n.L 0 (heads a₁.value) _) _ _ told₂ c.in_err-after-2.was)
    (passed-on _ c.from_residual-in_err-after-2.ensures.1)

pub returns-in_err-after-3 : goal.returns-in_err-after-3
returns-in_err-after-3 c =
    let a = c.args in
    let unmarked = agrees-none _ a.marks.now c.requires.by_index in
    let told₁ = rows_told a.file.now 1 a.n.M a.n.I a.at [] a.inputs.now _ _ _
    (c.read_lines.ensures [] unmarked) in
    let a₁ = was_read (RowsHeld 1 a.n.M [] a.inputs.now _ _) (lines a.file.now 1 true a.n.M a.n.I [] a.at) _ _ told₁
    c.in_ok-after.was in
    let told₂ = latches-told a.version a.file.now a.n.M _ a.n.L _ (heads a₁.value) a.latches.now a.resets.now _ _ _ _
    c.more_resets-more.ensures
    (c.read_latches.ensures (heads a₁.value) a₁.held.agrees) in
    let a₂ = was_read (LatchesHeld a.n.M (heads a₁.value) a.latches.now a.resets.now _ _ _)
    (latch_lines a.file.now (latch_form 2 true (more_resets a.version)) a.n.M a.n.L 0 (heads a₁.value) _) _ _ told₂
    c.in_ok-after-2.was in
    let told₃ = observed-told a.n.M (both a₁.value a₂.value) a.outputs.now a.bads.now a.constraints.now
    (observed_at a.file.now a.n _) _ _ _ _ _
    (c.read_observed.ensures (both a₁.value a₂.value)
    a₂.held.agrees) in
    observed-refused a.version a.file.now a.n a.at _ _ _ _ a₁ a₂
    (was-refused (AllHeld a.n.M (both a₁.value a₂.value) a.outputs.now a.bads.now a.constraints.now _ _ _ _)
    (observed_at a.file.now a.n _) _ _ told₃ c.in_err-after-3.was)
    (passed-on _ c.from_residual-in_err-after-3.ensures.1)

pub returns : goal.returns
returns c =
    let a = c.args in
    let unmarked = agrees-none _ a.marks.now c.requires.by_index in
    let told₁ = rows_told a.file.now 1 a.n.M a.n.I a.at [] a.inputs.now _ _ _
    (c.read_lines.ensures [] unmarked) in
    let a₁ = was_read (RowsHeld 1 a.n.M [] a.inputs.now _ _) (lines a.file.now 1 true a.n.M a.n.I [] a.at) _ _ told₁
    c.in_ok-after.was in
    let told₂ = latches-told a.version a.file.now a.n.M _ a.n.L _ (heads a₁.value) a.latches.now a.resets.now _ _ _ _
    c.more_resets-more.ensures (c.read_latches.ensures (heads a₁.value) a₁.held.agrees) in
    let a₂ = was_read (LatchesHeld a.n.M (heads a₁.value) a.latches.now a.resets.now _ _ _)
    (latch_lines a.file.now (latch_form 2 true (more_resets a.version)) a.n.M a.n.L 0 (heads a₁.value) _) _ _ told₂
    c.in_ok-after-2.was in
    let told₃ = observed-told a.n.M (both a₁.value a₂.value) a.outputs.now a.bads.now a.constraints.now
    (observed_at a.file.now a.n _) _ _ _ _ _
    (c.read_observed.ensures (both a₁.value a₂.value) a₂.held.agrees) in
    let a₃ = was_read (AllHeld a.n.M (both a₁.value a₂.value) a.outputs.now a.bads.now a.constraints.now _ _ _ _)
    (observed_at a.file.now a.n _) _ _ told₃ c.in_ok-after-3.was in
    let told₄ = rows_told a.file.now 3 a.n.M a.n.A _ (both a₁.value a₂.value) a.gates.now _ _ _
    (c.read_lines-2.ensures (both a₁.value a₂.value) a₃.held.agrees) in
    gates-last a.version a.file.now a.n a.at _ _ _ _ a₁ a₂ a₃ told₄
