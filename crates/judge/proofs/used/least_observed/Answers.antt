-- The same over outputs, bad states and constraints, which are observed. Each answer is given by `observed-walked`.
use native.Mathlib.Omega.{arith}
use Rattle.judge.proofs.used.Walked.{word-in-marks, observed-walked}
use Rattle.judge.proofs.used.least_observed.Goals as goal

pub least-by_outputs-requires : goal.least-by_outputs-requires
least-by_outputs-requires c =
    let p = c.requires in
    let a = c.args in
    record { start_lt_stride = omega arith; n_in_bounds = omega (arith, p.outputs-long); by_index = word-in-marks a.n.M a.outputs.now a.n.O a.marks.now p.marks-long p.outputs-up }

pub least-by_bads-requires : goal.least-by_bads-requires
least-by_bads-requires c =
    let p = c.requires in
    let a = c.args in
    record { start_lt_stride = omega arith; n_in_bounds = omega (arith, p.bads-long); by_index = word-in-marks a.n.M a.bads.now a.n.B a.marks.now p.marks-long p.bads-up }

pub least-requires : goal.least-requires
least-requires c =
    let p = c.requires in
    let a = c.args in
    record { start_lt_stride = omega arith; n_in_bounds = omega (arith, p.constraints-long); by_index = word-in-marks a.n.M a.constraints.now a.n.C a.marks.now p.marks-long p.constraints-up }

pub returns : goal.returns
returns c =
    observed-walked c.requires c.args.before _ _ _ c.least-by_outputs.ensures c.least-by_bads.ensures c.least.ensures
