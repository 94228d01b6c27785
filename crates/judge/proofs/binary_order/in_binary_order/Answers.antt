-- Outputs, bad states and constraints have no order to keep. The answers are given by `ends-sum`, `ends-inputs` and `ends-latches`.
use Prim.Native.Nat.{◌+◌}
use mathlib.Core.Path.{◌≡◌, sym, ◌∙◌}
use mathlib.Core.Bool.{true}
use borrow.Author.Tests.{not-true, not-false}
use Rattle.plan.specs.Circuit.{rows_of}
use Rattle.plan.specs.Binary.{runs}
use Rattle.judge.proofs.binary_order.Parts.{ends-sum, ends-inputs, ends-latches, ends}
use Rattle.judge.proofs.binary_order.in_binary_order.Goals as goal

pub returns-then-n : goal.returns-then-n
returns-then-n c outputs resets bads constraints =
    let a = c.args in
    ends-sum a.n a.inputs.now a.latches.now a.gates.now c.requires outputs resets bads constraints c.if-n.true

pub returns-then-not-runs_on : goal.returns-then-not-runs_on
returns-then-not-runs_on c outputs resets bads constraints =
    let a = c.args in
    ends-inputs a.n a.inputs.now a.latches.now a.gates.now c.requires outputs resets bads constraints c.if-n.false
    (sym c.runs_on.ensures ∙ not-true _ c.if-not-runs_on.true-raw)

pub returns-then-not-runs_on-2 : goal.returns-then-not-runs_on-2
returns-then-not-runs_on-2 c outputs resets bads constraints =
    let inputs-run : let a = c.args in runs 1 (rows_of 1 a.n.I a.inputs.now) ≡ true =
    sym c.runs_on.ensures ∙ not-false _ c.if-not-runs_on.false-raw in
    let a = c.args in
    ends-latches a.n a.inputs.now a.latches.now a.gates.now c.requires outputs resets bads constraints c.if-n.false (inputs-run)
    (sym c.runs_on-2.ensures ∙ not-true _ c.if-not-runs_on-2.true-raw)

pub returns : goal.returns
returns c outputs resets bads constraints =
    let inputs-run : let a = c.args in runs 1 (rows_of 1 a.n.I a.inputs.now) ≡ true =
    sym c.runs_on.ensures ∙ not-false _ c.if-not-runs_on.false-raw in
    let latches-run : let a = c.args in runs (1 + a.n.I) (rows_of 2 a.n.L a.latches.now) ≡ true =
    sym c.runs_on-2.ensures ∙ not-false _ c.if-not-runs_on-2.false-raw in
    let a = c.args in
    c.gates_in_order.ensures
    ∙ ends a.n a.inputs.now a.latches.now a.gates.now c.requires outputs resets bads constraints c.if-n.false (inputs-run) (latches-run)
