-- One part after another.
use native.Mathlib.Omega.{arith}
use mathlib.Core.Bool.{true}
use Rattle.plan.specs.Bytes.{lines_of}
use Rattle.write.specs.print.Latches.{latch_rows}
use Rattle.write.specs.forms.Forms.{head_bytes, observed_bytes, gate_groups}
use Rattle.write.proofs.forms.Forms.{four-fits-0, four-fits-1, four-fits-2, four-fits-3, four-filled}
use borrow.Author.Rules.{rules}
use Rattle.write.proofs.forms.fill_binary.Goals as goal

pub write_header-first_next-requires : goal.write_header-first_next-requires
write_header-first_next-requires c =
    let a = c.args in
    let n = a.n in
    let lats = lines_of (latch_rows true n.L a.latches.now a.resets.now) in
    let obs = observed_bytes n a.outputs.now a.bads.now a.constraints.now in
    record { all_most = search rules; n_in_bounds = four-fits-0 a.out.now (head_bytes 105 n) lats obs (gate_groups n a.gates.now) c.requires.constraints_in_bounds }

pub write_latches-first_output-requires : goal.write_latches-first_output-requires
write_latches-first_output-requires c =
    let a = c.args in
    let n = a.n in
    let lats = lines_of (latch_rows true n.L a.latches.now a.resets.now) in
    let obs = observed_bytes n a.outputs.now a.bads.now a.constraints.now in
    let fits = four-fits-1 a.out.now (head_bytes 105 n) lats obs (gate_groups n a.gates.now) c.requires.constraints_in_bounds (c.write_header-first_next.ensures.value, c.write_header-first_next.ensures.out_after) in
    record { n_in_bounds = search rules; n_in_bounds_2 = search rules; n_bound = omega (arith, c.requires.printable.counts-most.1.1.0); resets_in_bounds = fits }

pub write_observed-first_gate-requires : goal.write_observed-first_gate-requires
write_observed-first_gate-requires c =
    let a = c.args in
    let n = a.n in
    let lats = lines_of (latch_rows true n.L a.latches.now a.resets.now) in
    let obs = observed_bytes n a.outputs.now a.bads.now a.constraints.now in
    let fits = four-fits-2 a.out.now (head_bytes 105 n) lats obs (gate_groups n a.gates.now) c.requires.constraints_in_bounds (c.write_header-first_next.ensures.value, c.write_header-first_next.ensures.out_after)
    (c.write_latches-first_output.ensures.value, c.write_latches-first_output.ensures.out_after) in
    record { observable = c.requires.printable.observable; constraints_in_bounds = fits }

pub write_gates-requires : goal.write_gates-requires
write_gates-requires c =
    let a = c.args in
    let n = a.n in
    let lats = lines_of (latch_rows true n.L a.latches.now a.resets.now) in
    let obs = observed_bytes n a.outputs.now a.bads.now a.constraints.now in
    let fits = four-fits-3 a.out.now (head_bytes 105 n) lats obs (gate_groups n a.gates.now) c.requires.constraints_in_bounds (c.write_header-first_next.ensures.value, c.write_header-first_next.ensures.out_after)
    (c.write_latches-first_output.ensures.value, c.write_latches-first_output.ensures.out_after)
    (c.write_observed-first_gate.ensures.value, c.write_observed-first_gate.ensures.out_after) in
    record { n_in_bounds = c.requires.printable.gates-long; n_bound = omega (arith, c.requires.printable.counts-most.1.1.1.1.0); gates_in_bounds = fits }

pub returns : goal.returns
returns c =
    let a = c.args in
    let n = a.n in
    let lats = lines_of (latch_rows true n.L a.latches.now a.resets.now) in
    let obs = observed_bytes n a.outputs.now a.bads.now a.constraints.now in
    let whole = four-filled a.out.now (head_bytes 105 n) lats obs (gate_groups n a.gates.now) c.requires.constraints_in_bounds (c.write_header-first_next.ensures.value, c.write_header-first_next.ensures.out_after) (c.write_latches-first_output.ensures.value, c.write_latches-first_output.ensures.out_after)
    (c.write_observed-first_gate.ensures.value, c.write_observed-first_gate.ensures.out_after) (c.write_gates.ensures.value, c.write_gates.ensures.out_after) in
    record { value = whole.0; out_after = whole.1 }
