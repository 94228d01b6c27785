-- What stands at gate i's link for a bit: the next gate, counted from 1, or 0. Each answer is given by `word-link`.
use mathlib.Core.Path.{refl}
use Rattle.reduce.proofs.pairs.Words.{word-link}
use Rattle.reduce.proofs.pairs.leads.Goals as goal

pub returns-then-bit-eq0 : goal.returns-then-bit-eq0
returns-then-bit-eq0 c =
    let a = c.args in
    word-link a.gates.now a.scratch.now a.w a.i a.bit c.requires.w_bound.1 _ (λ e. refl)
    (λ d. absurd (d c.if-bit-eq0.true))

pub returns-else-bit-eq0 : goal.returns-else-bit-eq0
returns-else-bit-eq0 c =
    let a = c.args in
    word-link a.gates.now a.scratch.now a.w a.i a.bit c.requires.w_bound.1 _ (λ e. absurd (c.if-bit-eq0.false e)) (λ d. refl)
