-- Reads the body into tables 1 to 4 and 7 to 9. The answers are given by `agreeing`, `latches-told` and `latches-refused`.
use Prim.Native.Nat.{◌+◌}
use mathlib.Core.Bool.{false}
use mathlib.Core.List.{[]}
use Rattle.plan.specs.Bytes.{latch_lines, latch_form}
use Rattle.plan.specs.Header.{more_resets}
use Rattle.plan.specs.Binary.{gates_from}
use Rattle.laws.proofs.Marks.{agreeing}
use Rattle.lines.specs.outputs.Observed.{observed_at}
use Rattle.lines.proofs.outputs.Answers.{was_read, was-refused}
use Rattle.lines.proofs.outputs.Lists.{AllHeld, observed-told}
use Rattle.lines.proofs.binary.Parts.{LatchesHeld, latches-told, gates-told}
use Rattle.lines.proofs.binary.Body.{latches-refused, observed-refused, gates-last}
use Rattle.laws.proofs.Pairs.{passed-on}
use Rattle.lines.proofs.binary.read_binary.Goals as goal

pub returns-in_err-second : goal.returns-in_err-second
returns-in_err-second c =
    let a = c.args in
    let s = agreeing a.marks.now a.n.M in
    let told₁ = latches-told a.version a.file.now a.n.M _ a.n.L (1 + a.n.I) a.at s.0 a.latches.now a.resets.now _ _ _ _
    c.more_resets-more.ensures
    (c.read_latches.ensures s.0 s.1) in
    latches-refused a.version a.file.now a.n a.at _ _ _
    (was-refused (LatchesHeld a.n.M (1 + a.n.I) s.0 a.latches.now a.resets.now _ _ _)
    (latch_lines a.file.now (latch_form 1 false (more_resets a.version)) a.n.M a.n.L (1 + a.n.I) [] a.at) _ _ told₁ c.in_err-second.was)
    (passed-on _ c.from_residual.ensures.1)

pub returns-in_err-third : goal.returns-in_err-third
returns-in_err-third c =
    let a = c.args in
    let s = agreeing a.marks.now a.n.M in
    let told₁ = latches-told a.version a.file.now a.n.M _ a.n.L (1 + a.n.I) a.at s.0 a.latches.now a.resets.now _ _ _ _
    c.more_resets-more.ensures
    (c.read_latches.ensures s.0 s.1) in
    let a₁ = was_read (LatchesHeld a.n.M (1 + a.n.I) s.0 a.latches.now a.resets.now _ _ _)
    (latch_lines a.file.now (latch_form 1 false (more_resets a.version)) a.n.M a.n.L (1 + a.n.I) [] a.at) _ _ told₁
    c.in_ok-second.was in
    let told₂ = observed-told a.n.M s.0 a.outputs.now a.bads.now a.constraints.now
    (observed_at a.file.now a.n _) _ _ _ _ _
    (c.read_observed.ensures s.0 a₁.held.agrees) in
    observed-refused a.version a.file.now a.n a.at _ _ _ a₁
    (was-refused (AllHeld a.n.M s.0 a.outputs.now a.bads.now a.constraints.now _ _ _ _)
    (observed_at a.file.now a.n _) _ _ told₂ c.in_err-third.was)
    (passed-on _ c.from_residual-in_err-third.ensures.1)

pub returns : goal.returns
returns c =
    let a = c.args in
    let s = agreeing a.marks.now a.n.M in
    let told₁ = latches-told a.version a.file.now a.n.M _ a.n.L (1 + a.n.I) a.at s.0 a.latches.now a.resets.now _ _ _ _
    c.more_resets-more.ensures
    (c.read_latches.ensures s.0 s.1) in
    let a₁ = was_read (LatchesHeld a.n.M (1 + a.n.I) s.0 a.latches.now a.resets.now _ _ _)
    (latch_lines a.file.now (latch_form 1 false (more_resets a.version)) a.n.M a.n.L (1 + a.n.I) [] a.at) _ _ told₁
    c.in_ok-second.was in
    let told₂ = observed-told a.n.M s.0 a.outputs.now a.bads.now a.constraints.now
    (observed_at a.file.now a.n _) _ _ _ _ _
    (c.read_observed.ensures s.0 a₁.held.agrees) in
    let a₂ = was_read (AllHeld a.n.M s.0 a.outputs.now a.bads.now a.constraints.now _ _ _ _)
    (observed_at a.file.now a.n _) _ _ told₂
    c.in_ok-third.was in
    gates-last a.version a.file.now a.n a.at _ _ _ a₁ a₂ c.run_on.ensures
    (gates-told a.gates.now (gates_from a.file.now a.n.A (1 + a.n.I + a.n.L) _) _ _ c.read_gates.ensures)
