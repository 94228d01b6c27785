-- A refusal, or the text form and the tail.
use Prim.Native.Nat.{ℕ}
use mathlib.Core.Path.{ap, ◌∙◌}
use mathlib.Core.Bool.{false}
use mathlib.Core.List.{List, ◌++◌}
use Rattle.plan.specs.Text.{text_of}
use Rattle.plan.specs.Given.{given_circuit, room_stage}
use Rattle.plan.specs.Outcome.{FileEntry, put_bytes}
use Rattle.write.specs.Judged.{given_in, writer_stages}
use Rattle.write.proofs.Parts.{text-parts}
use Rattle.write.proofs.Judging.{refused-before, good-before, good-judged}
use Rattle.write.proofs.Writing.{refused-file, written-file}
use Rattle.laws.proofs.Pairs.{passed-on}
use Rattle.write.proofs.write_text.Goals as goal

pub put_text-requires : goal.put_text-requires
put_text-requires c =
    let a = c.args in
    let g = given_in a.n a.inputs.now a.latches.now a.outputs.now a.gates.now a.resets.now a.bads.now a.constraints.now
    a.scratch.now in
    let good = good-judged false g a.tail.now c.judge.ensures.value c.in_ok-judge.was in
    good.fits

pub returns-in_err-judge : goal.returns-in_err-judge
returns-in_err-judge c =
    let a = c.args in
    let g = given_in a.n a.inputs.now a.latches.now a.outputs.now a.gates.now a.resets.now a.bads.now a.constraints.now
    a.scratch.now in
    let e : FileEntry = record { circuit = g; tail = a.tail.now; out = a.out.now } in
    let bytes = text_of (given_circuit g) ++ a.tail.now in
    rw (passed-on _ c.from_residual.ensures.1)
    (refused-file e bytes _ c.judge.ensures.scratch_after _
    (refused-before (writer_stages false g a.tail.now) (room_stage a.out.now bytes) c.judge.ensures.value _ c.in_err-judge.was))

pub returns : goal.returns
returns c =
    let a = c.args in
    let g = given_in a.n a.inputs.now a.latches.now a.outputs.now a.gates.now a.resets.now a.bads.now a.constraints.now
    a.scratch.now in
    let e : FileEntry = record { circuit = g; tail = a.tail.now; out = a.out.now } in
    let bytes = text_of (given_circuit g) ++ a.tail.now in
    let good = good-judged false g a.tail.now c.judge.ensures.value c.in_ok-judge.was in
    written-file e bytes _ c.judge.ensures.scratch_after
    (good-before (writer_stages false g a.tail.now) (room_stage a.out.now bytes) c.judge.ensures.value c.in_ok-judge.was)
    (c.put_text.ensures
    ∙ ap (λ (form : List ℕ). put_bytes a.out.now 0 (form ++ a.tail.now))
    (text-parts a.n a.inputs.now a.latches.now a.outputs.now a.gates.now a.resets.now a.bads.now a.constraints.now
    good.fits))
