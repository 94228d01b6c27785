-- One part after another.
use Rattle.write.specs.forms.Forms.{one_lines}
use Rattle.write.proofs.forms.Forms.{fits-1, fits-2, fits-3, three-filled}
use borrow.Author.Rules.{rules}
use Rattle.write.proofs.forms.write_observed.Goals as goal

pub write_lines-first_bad-requires : goal.write_lines-first_bad-requires
write_lines-first_bad-requires c =
    let a = c.args in
    let n = a.n in
    let fits = fits-1 a.out.now a.at (one_lines n.O a.outputs.now) (one_lines n.B a.bads.now)
    (one_lines n.C a.constraints.now) c.requires.constraints_in_bounds in
    record { k_nonzero = search rules; n_in_bounds = search rules; n_bound = search rules; table_in_bounds = fits }

pub write_lines-first_constraint-requires : goal.write_lines-first_constraint-requires
write_lines-first_constraint-requires c =
    let a = c.args in
    let n = a.n in
    let fits = fits-2 a.out.now a.at (one_lines n.O a.outputs.now) (one_lines n.B a.bads.now)
    (one_lines n.C a.constraints.now) c.requires.constraints_in_bounds (c.write_lines-first_bad.ensures.value, c.write_lines-first_bad.ensures.out_after) in
    record { k_nonzero = search rules; n_in_bounds = search rules; n_bound = search rules; table_in_bounds = fits }

pub write_lines-requires : goal.write_lines-requires
write_lines-requires c =
    let a = c.args in
    let n = a.n in
    let fits = fits-3 a.out.now a.at (one_lines n.O a.outputs.now) (one_lines n.B a.bads.now)
    (one_lines n.C a.constraints.now) c.requires.constraints_in_bounds (c.write_lines-first_bad.ensures.value, c.write_lines-first_bad.ensures.out_after) (c.write_lines-first_constraint.ensures.value, c.write_lines-first_constraint.ensures.out_after) in
    record { k_nonzero = search rules; n_in_bounds = search rules; n_bound = search rules; table_in_bounds = fits }

pub returns : goal.returns
returns c =
    let a = c.args in
    let n = a.n in
    let whole = three-filled a.out.now a.at (one_lines n.O a.outputs.now) (one_lines n.B a.bads.now)
    (one_lines n.C a.constraints.now) c.requires.constraints_in_bounds (c.write_lines-first_bad.ensures.value, c.write_lines-first_bad.ensures.out_after) (c.write_lines-first_constraint.ensures.value, c.write_lines-first_constraint.ensures.out_after)
    (c.write_lines.ensures.value, c.write_lines.ensures.out_after) in
    record { value = whole.0; out_after = whole.1 }
