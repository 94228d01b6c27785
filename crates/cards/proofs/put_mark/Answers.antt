-- Two stores in a row.
use mathlib.Core.Path.{refl}
use native.Mathlib.Omega.{arith}
use lib.ListN.{length-set}
use Rattle.cards.proofs.Words.{two-put}
use Rattle.cards.proofs.put_mark.Goals as goal

pub bounds-out-at-2 : goal.bounds-out-at-2
bounds-out-at-2 c = simp length-set (omega arith)

pub returns : goal.returns
returns c =
    let a = c.args in
    record { value = refl; out_after = two-put a.out.now a.at _ _ c.requires }
