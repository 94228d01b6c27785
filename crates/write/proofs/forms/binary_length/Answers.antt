-- The lengths of the four parts, added.
use mathlib.Core.Bool.{true}
use Rattle.plan.specs.Bytes.{lines_of}
use Rattle.write.specs.print.Latches.{latch_rows}
use Rattle.write.specs.forms.Forms.{head_bytes, observed_bytes, gate_groups}
use Rattle.write.proofs.forms.Filled.{four-parts}
use Rattle.write.proofs.forms.binary_length.Goals as goal

pub returns : goal.returns
returns c =
    let a = c.args in
    let n = a.n in
    let lats = lines_of (latch_rows true n.L a.latches.now a.resets.now) in
    let obs = observed_bytes n a.outputs.now a.bads.now a.constraints.now in
    four-parts (head_bytes 97 n) lats obs (gate_groups n a.gates.now)
    c.header_length.ensures.value c.latches_length.ensures.value c.observed_length.ensures.value
    c.gates_length.ensures.value
