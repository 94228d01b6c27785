use mathlib.Core.Path.{refl}
use native.Mathlib.Omega.{arith}
use Rattle.search.proofs.Walking.{told-short, told-long}
use Rattle.search.proofs.back.tell.Goals as goal

pub returns-then-out-needed : goal.returns-then-out-needed
returns-then-out-needed c =
    let a = c.args in
    told-short a.n a.met.now a.place a.m a.tries _ _ a.out.now c.steps_to-steps.ensures refl c.if-out-needed.true

pub returns : goal.returns
returns c =
    let a = c.args in
    told-long a.n a.met.now a.place a.m a.tries _ _ a.out.now c.steps_to-steps.ensures refl (omega (arith, c.if-out-needed.false)) _
    c.store_way.ensures
