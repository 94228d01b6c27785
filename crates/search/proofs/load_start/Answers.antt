use Prim.Native.Nat.{◌+◌}
use native.Mathlib.Omega.{arith}
use Rattle.search.proofs.Beginning.{part-rest, both-loaded, first-asks, second-asks}
use Rattle.search.proofs.load_start.Goals as goal

pub load_resets_filled-requires : goal.load_resets_filled-requires
load_resets_filled-requires c =
    let a = c.args in
    let whole = first-asks a.split a.n.L _ a.resets.now c.requires.resets-long c.lesser-first.ensures (1 + a.n.I) a.scratch.now
    c.requires.few-latches c.requires.room in
    record { n_in_bounds = whole.0; loads = whole.1 }

pub load_resets_filled-requires-2 : goal.load_resets_filled-requires-2
load_resets_filled-requires-2 c =
    let a = c.args in
    let whole = second-asks a.split a.n.L _ a.resets.now c.requires.resets-long c.lesser-first.ensures _ (part-rest _ a.resets.now)
    (1 + a.n.I) _ c.requires.few-latches (omega (arith, c.requires.room, c.load_resets_filled.auto.t)) in
    record { n_in_bounds = whole.0; loads = whole.1 }

pub returns : goal.returns
returns c =
    let a = c.args in
    both-loaded a.split a.n.L _ a.resets.now c.requires.resets-long c.lesser-first.ensures a.k (1 + a.n.I) a.scratch.now _ _ _
    c.requires.room (part-rest _ a.resets.now) c.load_resets_filled.ensures.t_after c.load_resets_filled-2.ensures.t_after
