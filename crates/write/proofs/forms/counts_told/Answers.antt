-- By the last count that is not 0.
use native.Mathlib.Omega.{arith}
use Rattle.write.proofs.forms.Headers.{seven-told, six-told, five-told}
use Rattle.write.proofs.forms.counts_told.Goals as goal

pub returns-then-n-gt0 : goal.returns-then-n-gt0
returns-then-n-gt0 c =
    let n = c.args.n in
    record { result_nonzero = (omega arith, omega arith); n_value = seven-told n c.if-n-gt0.true }

pub returns-then-n-gt0-2 : goal.returns-then-n-gt0-2
returns-then-n-gt0-2 c =
    let n = c.args.n in
    record { result_nonzero = (omega arith, omega arith); n_value = six-told n (omega (arith, c.if-n-gt0.false)) c.if-n-gt0-2.true }

pub returns : goal.returns
returns c =
    let n = c.args.n in
    record { result_nonzero = (omega arith, omega arith); n_value = five-told n (omega (arith, c.if-n-gt0.false)) (omega (arith, c.if-n-gt0-2.false)) }
