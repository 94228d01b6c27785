-- A place turned over, or not; what its word is then.
use mathlib.Core.Bool.{Bool, cond}
use mathlib.Core.Path.{refl, sym, ap}
use native.Mathlib.Omega.{arith}
use borrow.Author.Tests.{eq-eqb, ne_eqb}
use Rattle.judge.proofs.marks.Levels.{lowered}
use Rattle.judge.proofs.marks.lower.Goals as goal

pub returns-then-t-k-eq0 : goal.returns-then-t-k-eq0
returns-then-t-k-eq0 c =
    let A = c.args in (
      lowered A.t.now _ A.p A.i A.e A.e c.requires.0 c.requires.1 refl
          (sym (ap (λ (b : Bool). cond b A.e 0) (eq-eqb _ 0 c.if-t-k-eq0.true))),
      c.requires.1,
    )

pub returns : goal.returns
returns c =
    let A = c.args in (
      lowered A.t.now _ A.p A.i A.e 0 c.requires.0 c.requires.1 refl
          (sym (ap (λ (b : Bool). cond b A.e 0) (ne_eqb _ 0 c.if-t-k-eq0.false))),
      omega arith,
    )
