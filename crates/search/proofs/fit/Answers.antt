use native.Mathlib.Omega.{arith}
use Rattle.search.proofs.Beginning.{total-few}
use Rattle.search.proofs.Answering.{fit-latches, fit-inputs, fit-ten, fit-eleven, fit-watch, fit-good}
use Rattle.search.proofs.fit.Goals as goal

pub returns-then-n-gt20 : goal.returns-then-n-gt20
returns-then-n-gt20 c = let a = c.args in fit-latches a.n a.watch a.met a.marks c.if-n-gt20.true

pub returns-then-n-gt20-2 : goal.returns-then-n-gt20-2
returns-then-n-gt20-2 c =
    let a = c.args in fit-inputs a.n a.watch a.met a.marks (omega (
      arith,
      c.if-n-gt20.false,
    )) c.if-n-gt20-2.true

pub overflow_mul-states : goal.overflow_mul-states
overflow_mul-states c =
    omega (
      arith,
      total-few c.args.n.L c.power-states.result (omega (arith, c.power-states.ensures))
          (omega (arith, c.if-n-gt20.false)),
    )

pub returns-then-met-states : goal.returns-then-met-states
returns-then-met-states c =
    let a = c.args in fit-ten a.n a.watch a.met a.marks (omega (
      arith,
      c.if-n-gt20.false,
    )) (omega (arith, c.if-n-gt20-2.false)) _ c.power-states.ensures c.if-met-states.true

pub returns-then-marks-states : goal.returns-then-marks-states
returns-then-marks-states c =
    let a = c.args in fit-eleven a.n a.watch a.met a.marks (omega
    (arith, c.if-n-gt20.false)) (omega (arith, c.if-n-gt20-2.false)) _ c.power-states.ensures (omega (arith, c.if-met-states.false)) c.if-marks-states.true

pub returns-then-n-watch : goal.returns-then-n-watch
returns-then-n-watch c =
    let a = c.args in fit-watch a.n a.watch a.met a.marks (omega (arith, c.if-n-gt20.false)) (omega (
      arith,
      c.if-n-gt20-2.false,
    )) _ c.power-states.ensures (omega (arith, c.if-met-states.false)) (omega (
      arith,
      c.if-marks-states.false,
    )) c.if-n-watch.true

pub returns : goal.returns
returns c =
    let a = c.args in fit-good a.n a.watch a.met a.marks (omega (arith, c.if-n-gt20.false)) (omega (
      arith,
      c.if-n-gt20-2.false,
    )) _ c.power-states.ensures (omega (arith, c.if-met-states.false)) (omega (
      arith,
      c.if-marks-states.false,
    )) (omega (arith, c.if-n-watch.false))
