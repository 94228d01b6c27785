-- Four tables marked, the gates walked, the reached ones retained.
use mathlib.Core.Path.{◌≡◌, ◌∙◌}
use mathlib.Core.List.{[], ◌++◌}
use native.Mathlib.Omega.{arith}
use lib.ListN.{length}
use Rattle.drop.specs.Reached.{column, reached_in}
use Rattle.drop.proofs.Reaching.{marking-same, retainable-same, gates-below, blank-marked}
use Rattle.drop.proofs.retain_reached.Goals as goal

pub mark_column-requires : goal.mark_column-requires
mark_column-requires c = record { start_lt_stride = omega arith; marking = c.requires.from-constraints }

pub mark_column-requires-2 : goal.mark_column-requires-2
mark_column-requires-2 c =
    record { start_lt_stride = omega arith; marking = marking-same _ _ _ _ _ _ c.mark_column.auto.t c.requires.from-bads }

pub mark_column-requires-3 : goal.mark_column-requires-3
mark_column-requires-3 c =
    record { start_lt_stride = omega arith; marking = marking-same _ _ _ _ _ _ (c.mark_column-2.auto.t ∙ c.mark_column.auto.t) c.requires.from-outputs }

pub mark_column-requires-4 : goal.mark_column-requires-4
mark_column-requires-4 c =
    let size = c.mark_column-3.auto.t ∙ c.mark_column-2.auto.t ∙ c.mark_column.auto.t in
    record { start_lt_stride = omega arith; marking = marking-same _ _ _ _ _ _ size c.requires.from-nexts }

pub reach-requires : goal.reach-requires
reach-requires c =
    let marked-size : length c.mark_column-4.new.t ≡ length c.args.t.now =
    c.mark_column-4.auto.t ∙ c.mark_column-3.auto.t ∙ c.mark_column-2.auto.t ∙ c.mark_column.auto.t in
    let p = c.requires in
    record { a_in_bounds = p.through-gates.gates-long; by_index = gates-below _ _ _ _ _ p.through-gates _ (marked-size) }

pub overflow_add-n : goal.overflow_add-n
overflow_add-n c = record { fits = omega (arith, c.requires.through-gates.few) }

pub overflow_add-n-2 : goal.overflow_add-n-2
overflow_add-n-2 c = record { fits = omega (arith, c.requires.through-gates.few) }

pub retain_gates-requires : goal.retain_gates-requires
retain_gates-requires c =
    let marked-size : length c.mark_column-4.new.t ≡ length c.args.t.now =
    c.mark_column-4.auto.t ∙ c.mark_column-3.auto.t ∙ c.mark_column-2.auto.t ∙ c.mark_column.auto.t in
    retainable-same _ _ _ _ _ _ (c.reach.auto.t ∙ marked-size) c.requires.through-gates

pub shape_of-t : goal.shape_of-t
shape_of-t c =
    let marked-size : length c.mark_column-4.new.t ≡ length c.args.t.now =
    c.mark_column-4.auto.t ∙ c.mark_column-3.auto.t ∙ c.mark_column-2.auto.t ∙ c.mark_column.auto.t in
    c.retain_gates.auto.t ∙ c.reach.auto.t ∙ marked-size

pub returns : goal.returns
returns c =
    let a = c.args in
    let cons = column a.constraints.now 1 0 a.n.C ++ [] in
    let bads = column a.bads.now 1 0 a.n.B ++ cons in
    let outs = column a.outputs.now 1 0 a.n.O ++ bads in
    let nexts = column a.latches.now 2 1 a.n.L ++ outs in
    let all = reached_in a.n a.latches.now a.outputs.now a.gates.now a.bads.now a.constraints.now in
    let k1 = c.mark_column.ensures [] (blank-marked _ _ _ _ _ _ _ _ c.requires) in
    let k2 = c.mark_column-2.ensures cons k1 in
    let k3 = c.mark_column-3.ensures bads k2 in
    let k4 = c.mark_column-4.ensures outs k3 in
    c.retain_gates.ensures all (c.reach.ensures nexts k4)
