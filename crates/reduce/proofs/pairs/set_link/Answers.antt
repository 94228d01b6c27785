-- Gate i's link for a bit leads to gate n. The answers are given by `led-zero` and `led-one`.
use native.Mathlib.Omega.{arith}
use Rattle.reduce.proofs.pairs.Words.{led-zero, led-one}
use Rattle.reduce.proofs.pairs.set_link.Goals as goal

pub returns-then-bit-eq0 : goal.returns-then-bit-eq0
returns-then-bit-eq0 c =
    let a = c.args in
    led-zero a.gates.now a.scratch.now a.w a.n a.i a.bit c.if-bit-eq0.true

pub returns : goal.returns
returns c =
    let a = c.args in
    led-one a.gates.now a.scratch.now a.w a.n a.i a.bit (omega (arith, c.requires.room.fewer, c.requires.i_lt_n)) c.if-bit-eq0.false
