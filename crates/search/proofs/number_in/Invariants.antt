use lib.ListN.{take, drop}
use Rattle.std.specs.Iterator.Adapters.{rev_source}
use Rattle.std.specs.Slice.Iter.{iter_rest}
use Rattle.search.proofs.Numbers.{Numbered}
use Rattle.search.proofs.number_in.Given as goal

abbrev pub invariant-loop-w : goal.invariant-loop-w
invariant-loop-w l =
    (goal.iterator-loop-w).can_next l.w-iterator × (goal.iterator-loop-w).is_finite l.w-iterator
    × Numbered (take l.n (drop l.first l.t)) (iter_rest (rev_source l.w-iterator)) l.s
