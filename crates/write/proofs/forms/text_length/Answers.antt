-- The lengths of the five parts, added.
use mathlib.Core.Bool.{false}
use Rattle.plan.specs.Bytes.{lines_of}
use Rattle.write.specs.print.Latches.{latch_rows}
use Rattle.write.specs.forms.Forms.{head_bytes, one_lines, observed_bytes, gate_lines}
use Rattle.write.proofs.forms.Filled.{five-parts}
use Rattle.write.proofs.forms.text_length.Goals as goal

pub returns : goal.returns
returns c =
    let a = c.args in
    let n = a.n in
    let ins = one_lines n.I a.inputs.now in
    let lats = lines_of (latch_rows false n.L a.latches.now a.resets.now) in
    let obs = observed_bytes n a.outputs.now a.bads.now a.constraints.now in
    five-parts (head_bytes 97 n) ins lats obs (gate_lines n a.gates.now)
    c.header_length.ensures.value c.lines_length.ensures.value
    c.latches_length.ensures.value
    c.observed_length.ensures.value c.lines_length-2.ensures.value
