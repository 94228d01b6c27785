-- The leaves' values, in the first n words, go to their literals' words, where gates and look ups read. The loop keeps `Spread lits (values_at t₀ 0
-- v) t₀ t`. `leaves-more` carries it from turn to turn.
use Rattle.step.specs.values.Words.{values_at}
use Rattle.step.proofs.sweep.Spreading.{Spread}
use Rattle.step.proofs.sweep.spread_leaves.Given as goal

abbrev pub invariant-loop-v : goal.invariant-loop-v
invariant-loop-v l = Spread l.lits (values_at l.initial.t 0 l.v) l.initial.t l.t
