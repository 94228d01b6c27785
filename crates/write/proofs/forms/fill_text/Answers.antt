-- One part after another.
use mathlib.Core.Bool.{false}
use Rattle.plan.specs.Bytes.{lines_of}
use Rattle.write.specs.print.Latches.{latch_rows}
use Rattle.write.specs.forms.Forms.{head_bytes, one_lines, observed_bytes, gate_lines}
use Rattle.write.proofs.forms.Forms.{five-fits-0, five-fits-1, five-fits-2, five-fits-3, five-fits-4, five-filled}
use borrow.Author.Rules.{rules}
use Rattle.write.proofs.forms.fill_text.Goals as goal

pub write_header-first_input-requires : goal.write_header-first_input-requires
write_header-first_input-requires c =
    let a = c.args in
    let n = a.n in
    let ins = one_lines n.I a.inputs.now in
    let lats = lines_of (latch_rows false n.L a.latches.now a.resets.now) in
    let obs = observed_bytes n a.outputs.now a.bads.now a.constraints.now in
    record { all_most = search rules; n_in_bounds = five-fits-0 a.out.now (head_bytes 97 n) ins lats obs (gate_lines n a.gates.now) c.requires.constraints_in_bounds }

pub write_lines-first_latch-requires : goal.write_lines-first_latch-requires
write_lines-first_latch-requires c =
    let a = c.args in
    let n = a.n in
    let ins = one_lines n.I a.inputs.now in
    let lats = lines_of (latch_rows false n.L a.latches.now a.resets.now) in
    let obs = observed_bytes n a.outputs.now a.bads.now a.constraints.now in
    let fits = five-fits-1 a.out.now (head_bytes 97 n) ins lats obs (gate_lines n a.gates.now) c.requires.constraints_in_bounds (c.write_header-first_input.ensures.value, c.write_header-first_input.ensures.out_after) in
    record { k_nonzero = search rules; n_in_bounds = search rules; n_bound = search rules; table_in_bounds = fits }

pub write_latches-first_output-requires : goal.write_latches-first_output-requires
write_latches-first_output-requires c =
    let a = c.args in
    let n = a.n in
    let ins = one_lines n.I a.inputs.now in
    let lats = lines_of (latch_rows false n.L a.latches.now a.resets.now) in
    let obs = observed_bytes n a.outputs.now a.bads.now a.constraints.now in
    let fits = five-fits-2 a.out.now (head_bytes 97 n) ins lats obs (gate_lines n a.gates.now) c.requires.constraints_in_bounds (c.write_header-first_input.ensures.value, c.write_header-first_input.ensures.out_after)
    (c.write_lines-first_latch.ensures.value, c.write_lines-first_latch.ensures.out_after) in
    record { n_in_bounds = search rules; n_in_bounds_2 = search rules; n_bound = search rules; resets_in_bounds = fits }

pub write_observed-first_gate-requires : goal.write_observed-first_gate-requires
write_observed-first_gate-requires c =
    let a = c.args in
    let n = a.n in
    let ins = one_lines n.I a.inputs.now in
    let lats = lines_of (latch_rows false n.L a.latches.now a.resets.now) in
    let obs = observed_bytes n a.outputs.now a.bads.now a.constraints.now in
    let fits = five-fits-3 a.out.now (head_bytes 97 n) ins lats obs (gate_lines n a.gates.now) c.requires.constraints_in_bounds (c.write_header-first_input.ensures.value, c.write_header-first_input.ensures.out_after)
    (c.write_lines-first_latch.ensures.value, c.write_lines-first_latch.ensures.out_after)
    (c.write_latches-first_output.ensures.value, c.write_latches-first_output.ensures.out_after) in
    record { observable = search rules; constraints_in_bounds = fits }

pub write_lines-requires : goal.write_lines-requires
write_lines-requires c =
    let a = c.args in
    let n = a.n in
    let ins = one_lines n.I a.inputs.now in
    let lats = lines_of (latch_rows false n.L a.latches.now a.resets.now) in
    let obs = observed_bytes n a.outputs.now a.bads.now a.constraints.now in
    let fits = five-fits-4 a.out.now (head_bytes 97 n) ins lats obs (gate_lines n a.gates.now) c.requires.constraints_in_bounds (c.write_header-first_input.ensures.value, c.write_header-first_input.ensures.out_after)
    (c.write_lines-first_latch.ensures.value, c.write_lines-first_latch.ensures.out_after)
    (c.write_latches-first_output.ensures.value, c.write_latches-first_output.ensures.out_after) (c.write_observed-first_gate.ensures.value, c.write_observed-first_gate.ensures.out_after) in
    record { k_nonzero = search rules; n_in_bounds = search rules; n_bound = search rules; table_in_bounds = fits }

pub returns : goal.returns
returns c =
    let a = c.args in
    let n = a.n in
    let ins = one_lines n.I a.inputs.now in
    let lats = lines_of (latch_rows false n.L a.latches.now a.resets.now) in
    let obs = observed_bytes n a.outputs.now a.bads.now a.constraints.now in
    let whole = five-filled a.out.now (head_bytes 97 n) ins lats obs (gate_lines n a.gates.now) c.requires.constraints_in_bounds (c.write_header-first_input.ensures.value, c.write_header-first_input.ensures.out_after) (c.write_lines-first_latch.ensures.value, c.write_lines-first_latch.ensures.out_after)
    (c.write_latches-first_output.ensures.value, c.write_latches-first_output.ensures.out_after) (c.write_observed-first_gate.ensures.value, c.write_observed-first_gate.ensures.out_after) (c.write_lines.ensures.value, c.write_lines.ensures.out_after) in
    record { value = whole.0; out_after = whole.1 }
