-- Each turn folds one gate.
use mathlib.Core.Path.{refl}
use native.Mathlib.Omega.{arith}
use Rattle.reduce.proofs.folding.Loop.{begun-held, going_more, going_end}
use Rattle.reduce.proofs.folding.fold_gates.Goals as goal

pub loop-k-init : goal.loop-k-init
loop-k-init c =
    let a = c.args in
    record {
      within = omega arith;
      to-long = refl;
      scratch-long = refl;
      held = begun-held a.gates.now a.to.now a.scratch.now _ a.base a.a c.requires.to-blank c.requires.scratch-blank
          c.begin.ensures;
      past = refl;
    }

pub loop-k-preserved : goal.loop-k-preserved
loop-k-preserved c =
    going_more c.loop-k-test.true c.fold_gate-n.auto.to c.fold_gate-n.auto.scratch c.fold_gate-n.ensures c.loop-k.invariant

pub returns : goal.returns
returns c = going_end c.loop-k-test.false c.loop-k.invariant c.name_gates.ensures
