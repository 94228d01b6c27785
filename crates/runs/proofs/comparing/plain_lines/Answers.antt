-- The lines of the first `number` vectors, from the start of a buffer that has room for them. The loop keeps `Lining` and `Going`, which `lining-next`
-- and `going_on` carry from turn to turn, the latter over a table that would hold the state; `all_left` gives the answer.
use mathlib.Core.Path.{ap, ◌∙◌}
use mathlib.Core.List.{map}
use native.Mathlib.Omega.{arith}
use lib.ListN.{length-map}
use Rattle.std.specs.Iterator.Adapters.{take_source, take_count}
use Rattle.std.specs.Slice.Iter.{chunks_exact_rest, chunks_exact_size}
use Rattle.plan.specs.Step.{value_of}
use Rattle.step.specs.Asked.{Room}
use Rattle.runs.proofs.comparing.Running.{resting, rests, state-of, ins-vector, wrote, next-vector, all_left}
use Rattle.runs.proofs.trace.Running.{taken, lining-first, lining-next, lining-last, lining-at, line-fits}
use Rattle.runs.proofs.trace.Running.{going-first, going-at, going_on}
use Rattle.runs.proofs.comparing.plain_lines.Goals as goal

pub loop-line-init : goal.loop-line-init
loop-line-init c =
    let a = c.args in
    let v = c.requires.vector in
    let took = c.into_iter-line-iterator.ensures.into_iter_gives in
    let chunks = ap take_source took ∙ c.take-line-items.ensures.source in
    let size = ap chunks_exact_size chunks ∙ c.chunks_exact.ensures.size in
    let rest = ap chunks_exact_rest chunks ∙ c.chunks_exact.ensures.rest in
    let more = ap take_count took ∙ c.take-line-items.ensures.count in (
      omega (arith, size),
      tt,
      size,
      lining-first c.requires.listed more rest,
      v,
      λ x r.
          going-first a.n _ (map value_of a.state.now) a.vectors.now (resting a.n a.state.now) a.out.now
          (length-map a.state.now value_of ∙ v.long) (rests a.n a.state.now v.long) more rest,
    )

pub plain_line-to-requires : goal.plain_line-to-requires
plain_line-to-requires c =
    let steps = c.in-Some.ensures.steps in
    let inv = c.loop-line.invariant in
    let room : let a = c.args in Room a.n a.latches.now a.outputs.now a.gates.now c.loop-line.scratch =
    let b = c.requires.room in
    record { others = b.others; runs = b.runs; scratch-long = omega (arith, b.scratch-long, c.loop-line.auto.scratch) } in
    let t = taken steps.1 steps.0.1.0 (steps.0.1.1 ∙ inv.2) in
    record { room = room; vector = inv.4; vector_2 = ins-vector inv.3 t; n_in_bounds = line-fits inv.3 t }

pub loop-line-preserved : goal.loop-line-preserved
loop-line-preserved c =
    let steps = c.in-Some.ensures.steps in
    let inv = c.loop-line.invariant in
    let size = steps.0.0 ∙ inv.2 in
    let t = taken steps.1 steps.0.1.0 (steps.0.1.1 ∙ inv.2) in
    let n = c.args.n in
    let b = c.requires.room in
    let line = c.plain_line-to.ensures in
    let long = c.plain_line-to.auto.state ∙ inv.4.long in (
      omega (arith, size),
      tt,
      size,
      lining-at line.value c.plain_line-to.auto.out (lining-next inv.3 t),
      next-vector n (line.lined b.others b.runs) long,
      λ x r.
          let g = inv.5 x r in
          going-at line.value
          (going_on inv.3 t r g c.loop-line.auto.out
          (wrote n (line.lined x r) long g.state (state-of n c.loop-line.state g.state inv.4.long g.rests))),
    )

pub returns : goal.returns
returns c =
    let inv = c.loop-line.invariant in
    let none = lining-last inv.3 (λ h. omega (arith, (c.in-None.ensures.steps h).1.0, inv.2)) in
    λ x r. all_left c.args.n c.args.state.now c.loop-line.state none inv.4 (inv.5 x r)
