-- The least variable of a next state, of what is observed or of a right side that is not defined, from marks of those that are. The answers are given
-- by `nothing-missing` and `one-missing`.
use native.Mathlib.Omega.{arith}
use Rattle.judge.proofs.used.Walked.{nothing-missing, one-missing}
use Rattle.judge.proofs.used.undefined.Goals as goal

pub least-by_latches-requires : goal.least-by_latches-requires
least-by_latches-requires c =
    let p = c.requires in
    record { start_lt_stride = omega arith; n_in_bounds = p.latches-long; by_index = λ i h. omega (arith, p.nexts-up i h, p.observed.marks-long) }

pub least_right-by_gates-requires : goal.least_right-by_gates-requires
least_right-by_gates-requires c =
    let p = c.requires in
    record { n_in_bounds = p.gates-long; by_index = λ i h. omega (arith, p.firsts-up i h, p.observed.marks-long); by_index_2 = λ i h. omega (arith, p.seconds-up i h, p.observed.marks-long) }

pub returns-then-by_gates-m : goal.returns-then-by_gates-m
returns-then-by_gates-m c =
    λ inputs resets agrees.
    nothing-missing c.requires _ _ _ c.least-by_latches.ensures c.least_observed-by_observed.ensures
    c.least_right-by_gates.ensures inputs resets agrees c.if-by_gates-m.true

pub returns : goal.returns
returns c =
    λ inputs resets agrees.
    one-missing c.requires _ _ _ c.least-by_latches.ensures c.least_observed-by_observed.ensures
    c.least_right-by_gates.ensures inputs resets agrees c.if-by_gates-m.false
