-- The constant and the start of filling number k. The answers are given by `rests-loaded`, `constant-set` and `start-length`.
use mathlib.Core.Path.{◌∙◌}
use mathlib.Core.List.{map}
use native.Mathlib.Omega.{arith}
use lib.ListN.{set, length-set}
use Rattle.plan.specs.Step.{value_of}
use Rattle.step.proofs.sweep.Loading.{constant-set, rests-loaded}
use Rattle.plan.specs.Fillings.{filling}
use Rattle.witness.specs.Asked.{codes_of}
use Rattle.witness.proofs.Words.{codes-length}
use Rattle.witness.proofs.Attempts.{start-length}
use Rattle.witness.proofs.start_filled.Goals as goal

pub bounds-t-0 : goal.bounds-t-0
bounds-t-0 c = omega (arith, c.requires.room)

pub overflow_add-n : goal.overflow_add-n
overflow_add-n c = omega (arith, c.requires.room)

pub load_resets_filled-requires : goal.load_resets_filled-requires
load_resets_filled-requires c =
    let a = c.args in
    record {
      n_in_bounds = c.requires.resets-long;
      loads = record {
        room = omega (arith, c.requires.room, codes-length a.resets.now a.n.L c.requires.resets-long, length-set a.t.now 0 1);
        few = omega (arith, c.requires.few);
      };
    }

pub shape_of-t : goal.shape_of-t
shape_of-t c = c.load_resets_filled.auto.t ∙ length-set c.args.t.now 0 1

pub returns : goal.returns
returns c =
    let a = c.args in
    record {
      rests = rests-loaded a.n (set a.t.now 0 1) (map value_of (filling a.k (codes_of a.resets.now a.n.L))) _
          (constant-set a.t.now (omega (arith, c.requires.room))) (omega (arith, c.requires.room, length-set a.t.now 0 1))
          (start-length a.resets.now a.n.L a.k c.requires.resets-long) c.load_resets_filled.ensures.t_after;
      value = c.load_resets_filled.ensures.value;
    }
