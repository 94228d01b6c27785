-- Inputs get the numbers from 1 on, in list order, and latches the next; the constant has 0, and so has what is no leaf (the paper, conversion). Each
-- answer is given by `leaves-numbered`.
use native.Mathlib.Omega.{arith}
use Rattle.judge.proofs.at_end.Leaving.{input-below, latch-below, leaves-numbered}
use Rattle.judge.proofs.at_end.number_leaves.Goals as goal

pub number_heads-requires : goal.number_heads-requires
number_heads-requires c =
    let p = c.requires in
    record { stride_nonzero = omega arith; n_in_bounds = omega (arith, p.inputs_long); n_bound = omega (arith, p.most-M, p.sum); by_index = λ i h. omega (arith, input-below p i h, p.table-long) }

pub number_heads-requires-2 : goal.number_heads-requires-2
number_heads-requires-2 c =
    let p = c.requires in
    let same = c.number_heads.auto.t in
    record { stride_nonzero = omega arith; n_in_bounds = omega (arith, p.latches-long); n_bound = omega (arith, p.most-M, p.sum); by_index = λ i h. omega (arith, latch-below p i h, p.table-long, same) }

pub returns : goal.returns
returns c = leaves-numbered c.requires _ _ c.number_heads.ensures c.number_heads-2.ensures
