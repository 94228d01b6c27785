-- Gate n, with the sides x and y, hangs at the slot where its pair belongs. The answer is that of the call below it.
use native.Mathlib.Omega.{arith}
use lib.ListN.{length-set}
use Rattle.reduce.specs.pairs.Pairs.{stored}
use Rattle.reduce.proofs.pairs.hang.Goals as goal

pub bounds-gates-n-2 : goal.bounds-gates-n-2
bounds-gates-n-2 c = simp length-set (omega (arith, c.set_slot.auto.gates, c.requires.room.gates-long))

pub returns : goal.returns
returns c =
    let a = c.args in
    (λ j. stored (c.set_slot.ensures.0 j) a.n (c.word.ensures j) (c.word-2.ensures j), c.set_slot.ensures.1)
