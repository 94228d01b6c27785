-- The lengths of the three parts, added.
use native.Mathlib.Omega.{arith}
use Rattle.write.specs.forms.Forms.{one_lines}
use Rattle.write.proofs.forms.Filled.{three-parts}
use Rattle.write.proofs.forms.observed_length.Goals as goal

pub returns : goal.returns
returns c =
    let a = c.args in
    let n = a.n in
    let p = c.requires in
    record { value = three-parts (one_lines n.O a.outputs.now) (one_lines n.B a.bads.now) (one_lines n.C a.constraints.now) c.lines_length.ensures.value c.lines_length-2.ensures.value c.lines_length-3.ensures.value; upper_bound = omega (arith, c.lines_length.ensures.upper_bound, c.lines_length-2.ensures.upper_bound, c.lines_length-3.ensures.upper_bound, p.most-O, p.most-B, p.most-C) }
