use Prim.Native.Nat.{◌+◌}
use mathlib.Core.Path.{◌∙◌}
use mathlib.Core.List.{map}
use native.Mathlib.Omega.{arith}
use Rattle.plan.specs.Step.{value_of}
use Rattle.plan.specs.Search.{fill_both}
use Rattle.witness.specs.Asked.{codes_of}
use Rattle.search.proofs.Beginning.{number-filled, filled-length}
use Rattle.search.proofs.start_number.Goals as goal

pub returns : goal.returns
returns c =
    let a = c.args in
    c.number_in.ensures
    ∙ number-filled a.scratch.now _ (1 + a.n.I) a.n.L (map value_of (fill_both a.split a.k (codes_of a.resets.now a.n.L)))
    (filled-length a.split a.n a.resets.now c.requires.resets-long a.k) (omega (arith, c.requires.room)) c.load_start.ensures
