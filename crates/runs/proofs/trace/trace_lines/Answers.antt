-- The lines of the first `number` vectors, from the start of a buffer that has room for them. The loop keeps `Lining` and `Going`, which `lining-next`
-- and `going_on` carry from turn to turn, and `all-gone` gives the answer.
use mathlib.Core.Path.{ap, ◌∙◌}
use native.Mathlib.Omega.{arith}
use Rattle.std.specs.Iterator.Adapters.{take_source, take_count}
use Rattle.std.specs.Slice.Iter.{chunks_exact_rest, chunks_exact_size}
use Rattle.runs.specs.trace.Tracing.{Resting}
use Rattle.runs.proofs.trace.Running.{taken, lining-first, lining-next, lining-last, lining-at, line-fits, ins-long}
use Rattle.runs.proofs.trace.Running.{going-first, going-at, going_on, all-gone}
use Rattle.runs.proofs.trace.trace_lines.Goals as goal

pub loop-line-init : goal.loop-line-init
loop-line-init c =
    let a = c.args in
    let took = c.into_iter-line-iterator.ensures.into_iter_gives in
    let chunks = ap take_source took ∙ c.take-line-items.ensures.source in
    let size = ap chunks_exact_size chunks ∙ c.chunks_exact.ensures.size in
    let rest = ap chunks_exact_rest chunks ∙ c.chunks_exact.ensures.rest in
    let more = ap take_count took ∙ c.take-line-items.ensures.count in (
      omega (arith, size),
      tt,
      size,
      lining-first c.requires.listed more rest,
      λ x s r e rests. going-first a.n _ s a.vectors.now a.scratch.now a.out.now e rests more rest,
    )

pub write_line-to-requires : goal.write_line-to-requires
write_line-to-requires c =
    let steps = c.in-Some.ensures.steps in
    let inv = c.loop-line.invariant in
    let b = c.requires.resting in
    let g = inv.4 b.others b.state b.runs b.state-length b.rests in
    let a = c.args in
    let resting : Resting a.n a.latches.now a.outputs.now a.gates.now c.loop-line.scratch = record {
      others = b.others;
      state = g.state;
      runs = b.runs;
      scratch-long = omega (arith, b.scratch-long, c.loop-line.auto.scratch);
      state-length = g.state-length;
      rests = g.rests;
    } in
    let t = taken steps.1 steps.0.1.0 (steps.0.1.1 ∙ inv.2) in
    record { resting = resting; ins_len = ins-long inv.3 t; n_in_bounds = line-fits inv.3 t }

pub loop-line-preserved : goal.loop-line-preserved
loop-line-preserved c =
    let steps = c.in-Some.ensures.steps in
    let inv = c.loop-line.invariant in
    let size = steps.0.0 ∙ inv.2 in
    let t = taken steps.1 steps.0.1.0 (steps.0.1.1 ∙ inv.2) in
    let wrote = c.write_line-to.ensures in (
      omega (arith, size),
      tt,
      size,
      lining-at wrote.value c.write_line-to.auto.out (lining-next inv.3 t),
      λ x s r e rests.
          let g = inv.4 x s r e rests in
          going-at wrote.value (going_on inv.3 t r g c.loop-line.auto.out (wrote.wrote x g.state r g.state-length g.rests)),
    )

pub returns : goal.returns
returns c =
    let inv = c.loop-line.invariant in
    let none = lining-last inv.3 (λ h. omega (arith, (c.in-None.ensures.steps h).1.0, inv.2)) in
    λ x s r e rests. all-gone none (inv.4 x s r e rests)
